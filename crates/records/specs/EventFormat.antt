-- Event records are a lawful format. Assumes nothing.
use Rattle.std.specs.Prelude.{◌≡◌, ℕ, cond, List, length, slice_index, refl, ◌==◌}
use Rattle.std.proofs.Common.{ap, sym, ◌∙◌}
use Rattle.market.specs.declared.Side.TheVariants.{Buy, Sell}
use Rattle.market.specs.declared.Config.{Config}
use Rattle.market.specs.declared.Event.{Event}
use Rattle.records.specs.Layout.{event_bytes, EventFits}
use Rattle.records.specs.Forms.{event_form, all_settled}
use Rattle.records.specs.Formats.{LawfulFormat}
use Rattle.records.specs.Inverses.{word_at, WordInverse, side_of, side_inverse, pair_of, pair_inverse}

pub event_length : (e : Event) → length (event_bytes e) ≡ 24
event_length (Event.Make c r) = refl
event_length (Event.Clock t) = refl
event_length (Event.Quote d p) = refl
event_length (Event.Withdraw d) = refl
event_length Event.Bell = refl
event_length (Event.Order s p q) = refl
event_length (Event.Cancel n a) = refl
event_length (Event.Click d n) = refl
event_length Event.Close = refl

pub event_keeps : (e : Event) → all_settled (event_form (slice_index (event_bytes e) 0)) (event_bytes e) ≡ event_bytes e
event_keeps (Event.Make c r) = refl
event_keeps (Event.Clock t) = refl
event_keeps (Event.Quote d p) = refl
event_keeps (Event.Withdraw d) = refl
event_keeps Event.Bell = refl
event_keeps (Event.Order Buy p q) = refl
event_keeps (Event.Order Sell p q) = refl
event_keeps (Event.Cancel n a) = refl
event_keeps (Event.Click d n) = refl
event_keeps Event.Close = refl

-- the numbers of a making's record
abbrev pub config_of : List ℕ → Config
config_of xs = record {
  dealers = slice_index xs 2;
  least_quantity = word_at xs 8;
  previous_average = word_at xs 12;
  day_kind = word_at xs 16;
}

-- the event of a record
abbrev pub event_of : List ℕ → Event
event_of xs =
    cond (slice_index xs 0 == 77) (Event.Make (config_of xs) (word_at xs 20))
    (cond (slice_index xs 0 == 78) (Event.Clock (word_at xs 4))
    (cond (slice_index xs 0 == 81) (Event.Quote (slice_index xs 2) (pair_of xs))
    (cond (slice_index xs 0 == 87) (Event.Withdraw (slice_index xs 2))
    (cond (slice_index xs 0 == 66) Event.Bell
    (cond (slice_index xs 0 == 79) (Event.Order (side_of (slice_index xs 1)) (word_at xs 8) (word_at xs 12))
    (cond (slice_index xs 0 == 67) (Event.Cancel (word_at xs 8) (word_at xs 12))
    (cond (slice_index xs 0 == 75) (Event.Click (slice_index xs 2) (word_at xs 8)) Event.Close)))))))

pub event_inverse : WordInverse → (e : Event) → EventFits e → event_of (event_bytes e) ≡ e
event_inverse word (Event.Make c r) l = λ i. Event.Make (record {
  dealers = c.dealers;
  least_quantity = word c.least_quantity l.1 i;
  previous_average = word c.previous_average l.2 i;
  day_kind = word c.day_kind l.3 i;
}) (word r l.4 i)
event_inverse word (Event.Clock t) l = λ i. Event.Clock (word t l i)
event_inverse word (Event.Quote d p) l = λ i. Event.Quote d (pair_inverse word p l.1 l.2 l.3 l.4 i)
event_inverse word (Event.Withdraw d) l = refl
event_inverse word Event.Bell l = refl
event_inverse word (Event.Order s p q) l = λ i. Event.Order (side_inverse s i) (word p l.0 i) (word q l.1 i)
event_inverse word (Event.Cancel n a) l = λ i. Event.Cancel (word n l.0 i) (word a l.1 i)
event_inverse word (Event.Click d n) l = λ i. Event.Click d (word n l.1 i)
event_inverse word Event.Close l = refl

pub event_format : WordInverse → LawfulFormat event_bytes EventFits event_form
event_format word = record {
  length_of = event_length;
  keeps = event_keeps;
  one_value = λ e f l m h. sym (event_inverse word e l) ∙ ap event_of h ∙ event_inverse word f m;
  some = Event.Bell;
  some_fits = tt;
}
