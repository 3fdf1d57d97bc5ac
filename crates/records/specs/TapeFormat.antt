-- Tape records are a lawful format. Assumes nothing.
use Rattle.std.specs.Prelude.{◌≡◌, ℕ, cond, List, length, slice_index, refl, ◌==◌}
use Rattle.std.proofs.Common.{ap, sym, ◌∙◌}
use Rattle.market.specs.declared.Trade.{Trade}
use Rattle.market.specs.declared.TapeRecord.{TapeRecord}
use Rattle.records.specs.Layout.{row, tape_bytes, TapeFits}
use Rattle.records.specs.Forms.{tape_form, all_settled}
use Rattle.records.specs.Formats.{LawfulFormat}
use Rattle.records.specs.Inverses.{word_at, WordInverse, side_of, side_inverse, side_keeps, pair_of, pair_inverse}

pub tape_length : (t : TapeRecord) → length (tape_bytes t) ≡ 24
tape_length (TapeRecord.Quote t d p) = refl
tape_length (TapeRecord.Withdrawal t d) = refl
tape_length (TapeRecord.Order t s p q) = refl
tape_length (TapeRecord.Cancellation t s n q) = refl
tape_length (TapeRecord.Click t d s n p k e) = refl
tape_length (TapeRecord.Trade t) = refl
tape_length (TapeRecord.Late t d m) = refl
tape_length (TapeRecord.Halt t d) = refl

pub tape_keeps : (t : TapeRecord) → all_settled (tape_form (slice_index (tape_bytes t) 0)) (tape_bytes t) ≡ tape_bytes t
tape_keeps (TapeRecord.Quote t d p) = refl
tape_keeps (TapeRecord.Withdrawal t d) = refl
tape_keeps (TapeRecord.Order t s p q) = λ i. row "O" (side_keeps s i) 0 t p q 0 0
tape_keeps (TapeRecord.Cancellation t s n q) = λ i. row "C" (side_keeps s i) 0 t n q 0 0
tape_keeps (TapeRecord.Click t d s n p k e) = λ i. row "K" (side_keeps s i) d t n p k e
tape_keeps (TapeRecord.Trade t) = λ i. row "T" (side_keeps t.side i) t.dealer t.time t.number t.price t.quantity t.arrival
tape_keeps (TapeRecord.Late t d m) = refl
tape_keeps (TapeRecord.Halt t d) = refl

-- the trade of a trade's record
abbrev trade_of : List ℕ → Trade
trade_of xs = record {
  time = word_at xs 4;
  side = side_of (slice_index xs 1);
  dealer = slice_index xs 2;
  number = word_at xs 8;
  price = word_at xs 12;
  quantity = word_at xs 16;
  arrival = word_at xs 20;
}

-- the tape record of some bytes
abbrev pub tape_of : List ℕ → TapeRecord
tape_of xs =
    cond (slice_index xs 0 == 81) (TapeRecord.Quote (word_at xs 4) (slice_index xs 2) (pair_of xs))
    (cond (slice_index xs 0 == 87) (TapeRecord.Withdrawal (word_at xs 4) (slice_index xs 2))
    (cond (slice_index xs 0 == 79) (TapeRecord.Order (word_at xs 4) (side_of (slice_index xs 1)) (word_at xs 8) (word_at xs 12))
    (cond (slice_index xs 0 == 67) (TapeRecord.Cancellation (word_at xs 4) (side_of (slice_index xs 1)) (word_at xs 8) (word_at xs 12))
    (cond (slice_index xs 0 == 75) (TapeRecord.Click (word_at xs 4) (slice_index xs 2) (side_of (slice_index xs 1)) (word_at xs 8) (word_at xs 12) (word_at xs 16) (word_at xs 20))
    (cond (slice_index xs 0 == 84) (TapeRecord.Trade (trade_of xs))
    (cond (slice_index xs 0 == 76) (TapeRecord.Late (word_at xs 4) (slice_index xs 2) (word_at xs 8))
    (TapeRecord.Halt (word_at xs 4) (word_at xs 8))))))))

pub tape_inverse : WordInverse → (t : TapeRecord) → TapeFits t → tape_of (tape_bytes t) ≡ t
tape_inverse word (TapeRecord.Quote t d p) l = λ i. TapeRecord.Quote (word t l.0 i) d (pair_inverse word p l.2 l.3 l.4 l.5 i)
tape_inverse word (TapeRecord.Withdrawal t d) l = λ i. TapeRecord.Withdrawal (word t l.0 i) d
tape_inverse word (TapeRecord.Order t s p q) l = λ i. TapeRecord.Order (word t l.0 i) (side_inverse s i) (word p l.1 i) (word q l.2 i)
tape_inverse word (TapeRecord.Cancellation t s n q) l = λ i. TapeRecord.Cancellation (word t l.0 i) (side_inverse s i) (word n l.1 i) (word q l.2 i)
tape_inverse word (TapeRecord.Click t d s n p k e) l = λ i. TapeRecord.Click (word t l.0 i) d (side_inverse s i) (word n l.2 i) (word p l.3 i) (word k l.4 i) (word e l.5 i)
tape_inverse word (TapeRecord.Trade t) l = λ i. TapeRecord.Trade (record {
  time = word t.time l.0 i;
  side = side_inverse t.side i;
  dealer = t.dealer;
  number = word t.number l.2 i;
  price = word t.price l.3 i;
  quantity = word t.quantity l.4 i;
  arrival = word t.arrival l.5 i;
})
tape_inverse word (TapeRecord.Late t d m) l = λ i. TapeRecord.Late (word t l.0 i) d (word m l.2 i)
tape_inverse word (TapeRecord.Halt t d) l = λ i. TapeRecord.Halt (word t l.0 i) (word d l.1 i)

pub tape_format : WordInverse → TapeFits (TapeRecord.Withdrawal 0 0) → LawfulFormat tape_bytes TapeFits tape_form
tape_format word fits = record {
  length_of = tape_length;
  keeps = tape_keeps;
  one_value = λ t u l m h. sym (tape_inverse word t l) ∙ ap tape_of h ∙ tape_inverse word u m;
  some = TapeRecord.Withdrawal 0 0;
  some_fits = fits;
}
