-- The kinds of steps: what holds of a refusal and of each kind of accepted event holds of every step. Assumes nothing.
use Rattle.std.proofs.Common.{◌≡◌, ℕ, false, List, [], ◌∷◌, length, Some, None, Option, refl}
use Rattle.std.specs.List.{AllByRecursion}
use Rattle.std.proofs.lemmas.Bool.{cond_both}
use Rattle.market.specs.declared.Pair.{Pair}
use Rattle.market.specs.declared.Duty.{Duty}
use Rattle.market.specs.declared.Event.{Event}
use Rattle.market.specs.declared.Answer.{Answer}
use Rattle.market.specs.declared.Refusal.{Refusal}
use Rattle.market.specs.Precedence.{Precedence}
use Rattle.market.specs.State.{Phase, before_bell, trading, over, State}
use Rattle.market.specs.Events.{Step, refuse, accept, Reason, first_of, unless, bell_clock, watching, with_duties, settled, quote_reasons, quoted, early_quote_step, withdrawn, withdrawal_reasons, withdrawal_step, becoming_late, stepped, clock_reasons, clock_step, moved_to, bell_reasons, bell_step, close_step, step_in, step}
use Rattle.market.proofs.Finds.{never}

-- none of these reasons to refuse holds
abbrev pub NoneHolds : List Reason → Type 0
NoneHolds rs = AllByRecursion (λ (r : Reason). r.0 ≡ false) rs

none_holds : (rs : List Reason) → first_of rs ≡ None → NoneHolds rs
none_holds [] = λ e. tt
none_holds (r ∷ rs) =
    cond_both r.0 (Some r.1) (first_of rs) (λ o. o ≡ None → NoneHolds (r ∷ rs))
    (λ b e. never (cc))
    (λ b e. (b, none_holds rs e))

-- a step that is refused for its first reason, and otherwise accepted
unless_both : (P : Step → Type 0) (s : State) (accepted : Step) (rs : List Reason) → ((why : Refusal) → P (refuse why s)) → (NoneHolds rs → P accepted) → P (unless (first_of rs) s accepted)
unless_both P s accepted rs refused passed = at (first_of rs) (none_holds rs)
  where
    at : (o : Option Refusal) → (o ≡ None → NoneHolds rs) → P (unless o s accepted)
    at None none = passed (none refl)
    at (Some why) none = refused why

-- a session with its duties brought up to date is one with some duties
settled_both : (P : State → Type 0) (s : State) → ((duties : List Duty) → P (with_duties duties s)) → P (settled s)
unfolding settled
settled_both P s h = cond_both (watching s.phase s.halted) _ s P (λ _. h _) (λ _. h s.duties)

-- what holds of a refusal and of each kind of accepted event; the duties do not matter where they are brought up to date
pub record EachKind (rule : Precedence) (s : State) (P : Event → Step → Type 0) : Type 0 where
  pub refused : (event : Event) (why : Refusal) → P event (refuse why s)
  pub clock_set : (t : ℕ) (duties : List Duty) → P (Event.Clock t) (accept (Answer.Stepped (length (becoming_late t s))) (with_duties duties (stepped t s)))
  pub quoted_early : s.phase ≡ before_bell → (d : ℕ) (p : Pair) → NoneHolds (quote_reasons rule d p s) → P (Event.Quote d p) (accept (Answer.Quoted 0 0) (quoted rule d p s))
  pub withdrew : (d : ℕ) (duties : List Duty) → P (Event.Withdraw d) (accept Answer.Withdrawn (with_duties duties (withdrawn d s)))
  pub rang : (duties : List Duty) → P Event.Bell (accept Answer.Rung (with_duties duties (moved_to trading bell_clock s)))
  pub closed : P Event.Close (close_step s)

module _ (rule : Precedence) (s : State) (P : Event → Step → Type 0) (h : EachKind rule s P) where
  settling : (event : Event) (rs : List Reason) (answer : Answer) (x : State) → ((duties : List Duty) → P event (accept answer (with_duties duties x))) → P event (unless (first_of rs) s (accept answer (settled x)))
  settling event rs answer x accepted = unless_both (P event) s (accept answer (settled x)) rs (h.refused event) (λ _. settled_both (λ y. P event (accept answer y)) x accepted)

  at_clock : (t : ℕ) → P (Event.Clock t) (clock_step rule t s)
  unfolding clock_step
  at_clock t = settling (Event.Clock t) (clock_reasons rule t s) (Answer.Stepped (length (becoming_late t s))) (stepped t s) (h.clock_set t)

  at_withdrawal : (d : ℕ) → P (Event.Withdraw d) (withdrawal_step rule d s)
  unfolding withdrawal_step
  at_withdrawal d = settling (Event.Withdraw d) (withdrawal_reasons rule d s) Answer.Withdrawn (withdrawn d s) (h.withdrew d)

  at_bell : P Event.Bell (bell_step rule s)
  unfolding bell_step
  at_bell = settling Event.Bell (bell_reasons rule s) Answer.Rung (moved_to trading bell_clock s) h.rang

  at_early_quote : s.phase ≡ before_bell → (d : ℕ) (p : Pair) → P (Event.Quote d p) (early_quote_step rule d p s)
  unfolding early_quote_step
  at_early_quote e d p = unless_both (P (Event.Quote d p)) s (accept (Answer.Quoted 0 0) (quoted rule d p s)) (quote_reasons rule d p s) (h.refused _) (h.quoted_early e d p)

  at_each : (phase : Phase) → s.phase ≡ phase → (event : Event) → P event (step_in phase rule event s)
  at_each before_bell e (Event.Make config number) = h.refused _ Refusal.OutOfTurn
  at_each before_bell e (Event.Clock time) = at_clock time
  at_each before_bell e (Event.Quote dealer pair) = at_early_quote e dealer pair
  at_each before_bell e (Event.Withdraw dealer) = at_withdrawal dealer
  at_each before_bell e Event.Bell = at_bell
  at_each before_bell e (Event.Order side price quantity) = h.refused _ Refusal.OutOfTurn
  at_each before_bell e (Event.Cancel number amount) = h.refused _ Refusal.OutOfTurn
  at_each before_bell e (Event.Click dealer number) = h.refused _ Refusal.OutOfTurn
  at_each before_bell e Event.Close = h.refused _ Refusal.OutOfTurn
  at_each trading e (Event.Make config number) = h.refused _ Refusal.OutOfTurn
  at_each trading e (Event.Clock time) = at_clock time
  at_each trading e (Event.Quote dealer pair) = h.refused _ Refusal.OutOfTurn
  at_each trading e (Event.Withdraw dealer) = at_withdrawal dealer
  at_each trading e Event.Bell = h.refused _ Refusal.OutOfTurn
  at_each trading e (Event.Order side price quantity) = h.refused _ Refusal.OutOfTurn
  at_each trading e (Event.Cancel number amount) = h.refused _ Refusal.OutOfTurn
  at_each trading e (Event.Click dealer number) = h.refused _ Refusal.OutOfTurn
  at_each trading e Event.Close = h.closed
  at_each over e event = h.refused event Refusal.OutOfTurn

  -- every step is of one of these kinds
  pub at_step : (event : Event) → P event (step rule event s)
  at_step = at_each s.phase refl
