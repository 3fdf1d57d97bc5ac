-- The guarantee holds after any events: an induction over the log. Assumes nothing.
use Rattle.std.proofs.Common.{◌≡◌, ℕ, zero, suc, ◌+◌, true, List, [], ◌∷◌, ◌++◌, map, length, take, drop, sym, refl, ap, ◌∙◌, arith}
use Rattle.std.proofs.lemmas.List.{append-nil, append_assoc, length-append, map_push, drop_at}
use Rattle.std.proofs.lemmas.Bool.Decides.{nat_tests}
use Rattle.market.specs.declared.TapeRecord.{TapeRecord}
use Rattle.market.specs.declared.Config.{Config}
use Rattle.market.specs.declared.Event.{Event}
use Rattle.market.specs.Precedence.{Precedence, LawfulRule}
use Rattle.market.specs.State.{Sizes, State, lawful_book}
use Rattle.market.specs.Events.{Step, may_be_made, fresh, becoming_late, step}
use Rattle.market.specs.PlainBook.{Entry, tape_of}
use Rattle.market.specs.Guarantee.{Guarantee, after, entry_of, log_of, outcomes_of, CountedFrom, Tells}
use Rattle.market.proofs.LawfulBooks.{both_sides, sound_tells}
use Rattle.market.proofs.Kept.{Kept, After, guarantee_from}
use Rattle.market.proofs.StepKinds.{at_step}
use Rattle.market.proofs.QuietEvents.{kept_refused, kept_clock, kept_bell, kept_close, kept_withdrawal, kept_early_quote}

-- ---- a run and its log

-- a step only adds to the tape
abbrev Appends : State → Step → Type 0
Appends s p = (more : List TapeRecord) × (p.next.tape ≡ s.tape ++ more)

step_appends : (rule : Precedence) (event : Event) (s : State) → Appends s (step rule event s)
step_appends rule event s = at_step rule s (λ _. Appends s) (record {
  refused = λ _ _. ([], sym (append-nil s.tape));
  clock_set = λ t _. (becoming_late t s, refl);
  quoted_early = λ _ _ _ _. (_, refl);
  withdrew = λ _ _. (_, refl);
  rang = λ _. ([], sym (append-nil s.tape));
  closed = ([], sym (append-nil s.tape));
}) event

module _ (rule : Precedence) where
  -- what an entry adds is what the step added
  tape_added : (event : Event) (s : State) → s.tape ++ (entry_of rule event s).added ≡ (step rule event s).next.tape
  tape_added event s =
      let appends = step_appends rule event s in
      ap (λ rs. s.tape ++ drop (length s.tape) rs) appends.1 ∙ ap (λ rs. s.tape ++ rs) (drop_at s.tape appends.0 (length s.tape) refl) ∙ sym appends.1

  log_events : (s : State) (events : List Event) → map (λ (e : Entry). e.event) (log_of rule s events) ≡ events
  log_events s [] = refl
  log_events s (e ∷ es) = ap (λ xs. e ∷ xs) (log_events (step rule e s).next es)

  log_tape : (s : State) (events : List Event) → s.tape ++ tape_of (log_of rule s events) ≡ (after rule s events).tape
  log_tape s [] = append-nil s.tape
  log_tape s (e ∷ es) =
      sym (append_assoc s.tape (entry_of rule e s).added (tape_of (log_of rule (step rule e s).next es)))
      ∙ ap (λ rs. rs ++ tape_of (log_of rule (step rule e s).next es)) (tape_added e s)
      ∙ log_tape (step rule e s).next es

  log_counted : (s : State) (events : List Event) (count : ℕ) → count ≡ length s.tape → CountedFrom count (log_of rule s events)
  log_counted s [] count h = tt
  log_counted s (e ∷ es) count h = (sym h, log_counted (step rule e s).next es _ (ap (λ n. n + length (entry_of rule e s).added) h ∙ sym (length-append s.tape (entry_of rule e s).added) ∙ ap length (tape_added e s)))

  -- the log of a run is the run's
  pub log_tells : (c : Config) (sizes : Sizes) (events : List Event) → Tells events (outcomes_of (log_of rule (fresh c sizes) events)) (after rule (fresh c sizes) events).tape (log_of rule (fresh c sizes) events)
  log_tells c sizes events = record {
    its_events = log_events (fresh c sizes) events;
    its_outcomes = refl;
    its_tape = log_tape (fresh c sizes) events;
    counted = log_counted (fresh c sizes) events 0 refl;
  }

  -- ---- a loop over the events

  pub after_push : (s : State) (es : List Event) (e : Event) → after rule s (es ++ e ∷ []) ≡ (step rule e (after rule s es)).next
  after_push s [] e = refl
  after_push s (x ∷ xs) e = after_push (step rule x s).next xs e

  pub log_push : (s : State) (es : List Event) (e : Event) → log_of rule s (es ++ e ∷ []) ≡ log_of rule s es ++ entry_of rule e (after rule s es) ∷ []
  log_push s [] e = refl
  log_push s (x ∷ xs) e = ap (λ log. entry_of rule x s ∷ log) (log_push (step rule x s).next xs e)

  pub outcomes_push : (s : State) (es : List Event) (e : Event) → outcomes_of (log_of rule s (es ++ e ∷ [])) ≡ outcomes_of (log_of rule s es) ++ (step rule e (after rule s es)).outcome ∷ []
  outcomes_push s es e = ap outcomes_of (log_push s es e) ∙ map_push (λ (x : Entry). x.outcome) (log_of rule s es) (entry_of rule e (after rule s es))

  -- the log of the first events is the front of the log
  pub log_take : (k : ℕ) (s : State) (es : List Event) → take k (log_of rule s es) ≡ log_of rule s (take k es)
  log_take zero s es = refl
  log_take (suc k) s [] = refl
  log_take (suc k) s (e ∷ es) = ap (λ log. entry_of rule e s ∷ log) (log_take k (step rule e s).next es)

-- ---- the guarantee

module _ (rule : Precedence) (lawful : LawfulRule rule) where
  -- one event
  kept_step : (least : ℕ) (s : State) (log : List Entry) → Kept rule least s log → (event : Event) → After rule least s log event (step rule event s)
  kept_step least s log k = at_step rule s (After rule least s log) (record {
    refused = kept_refused rule least s log k;
    clock_set = kept_clock rule least s log k;
    quoted_early = λ early d p. kept_early_quote rule least s log k d p lawful early;
    withdrew = kept_withdrawal rule least s log k;
    rang = kept_bell rule least s log k;
    closed = kept_close rule least s log k;
  })

  -- any events, behind a log
  kept_run : (least : ℕ) (events : List Event) (s : State) (log : List Entry) → Kept rule least s log → Kept rule least (after rule s events) (log ++ log_of rule s events)
  kept_run least [] s log k = rw (append-nil log) k
  kept_run least (e ∷ es) s log k =
      rw append_assoc at (kept_run least es (step rule e s).next (log ++ entry_of rule e s ∷ []) (kept_step least s log k e))

  module _ (c : Config) (sizes : Sizes) (made : may_be_made c sizes ≡ true) where
    kept_start : Kept rule c.least_quantity (fresh c sizes) []
    kept_start = record {
      standing = record {
        made = made;
        least_is = refl;
        sound = record {
          lent_again = grind (arith, nat_tests);
          quotes_fit = both_sides _ (tt, (tt, refl)) (tt, (tt, refl));
          orders_fit = both_sides _ (tt, refl) (tt, refl);
          numbers_differ = tt;
        };
        room = (omega arith, omega arith);
        quotes_told = both_sides _ (λ _. refl) (λ _. refl);
        orders_told = both_sides _ (λ _. refl) (λ _. refl);
        early = λ _. both_sides _ refl refl;
        right = tt;
        held = tt;
        unused = both_sides _ (λ _ _. refl) (λ _ _. refl);
        tape_told = refl;
      };
      resting = both_sides _ tt tt;
    }

    kept_after : (events : List Event) → Kept rule c.least_quantity (after rule (fresh c sizes) events) (log_of rule (fresh c sizes) events)
    kept_after events = kept_run c.least_quantity events (fresh c sizes) [] kept_start

    -- after any events, under any lawful rule, the guarantee holds
    pub guaranteed : (events : List Event) → Guarantee rule c.least_quantity (after rule (fresh c sizes) events).lists (log_of rule (fresh c sizes) events)
    guaranteed events = guarantee_from rule c.least_quantity (after rule (fresh c sizes) events) (log_of rule (fresh c sizes) events) (kept_after events)

    -- and the book is lawful
    pub stays_lawful : (events : List Event) → lawful_book rule (after rule (fresh c sizes) events) ≡ true
    stays_lawful events = (sound_tells rule (after rule (fresh c sizes) events)).1 (kept_after events).standing.sound
