-- Events taken one after another: a loop's turn, and what a run from a fresh session is. Assumes nothing.
use Rattle.std.proofs.Common.{◌≡◌, ℕ, ◌+◌, ◌-◌, ◌<◌, ◌≤◌, true, List, [], ◌∷◌, ◌++◌, length, get_or, take, drop, Result, sym, ap, ◌∙◌, subst, arith}
use Rattle.std.proofs.lemmas.List.{take_more, drop-drop}
use Rattle.market.specs.declared.Config.{Config}
use Rattle.market.specs.declared.Event.{Event}
use Rattle.market.specs.declared.Answer.{Answer}
use Rattle.market.specs.declared.Refusal.{Refusal}
use Rattle.market.specs.declared.TapeRecord.{TapeRecord}
use Rattle.market.specs.Precedence.{Precedence, LawfulRule}
use Rattle.market.specs.State.{State}
use Rattle.market.specs.Events.{step, may_be_made}
use Rattle.market.specs.Guarantee.{after, log_of, outcomes_of, Tells}
use Rattle.market.proofs.Runs.{after_push, outcomes_push, log_take, log_tells, guaranteed, stays_lawful}
use Rattle.book.specs.declared.memory.Memory.{Memory}
use Rattle.book.specs.View.{places_of, sizes_of}
use Rattle.day.specs.declared.running.Session.{Session}
use Rattle.day.specs.Running.{ledger_of, view_of, Stepped}
use Rattle.day.specs.Ran.{start_of, Played, Ran}

-- what lies behind a later place is unchanged where what lies behind an earlier one is
drop_later : (xs ys : List TapeRecord) (n k : ℕ) → n ≤ k → drop n xs ≡ drop n ys → drop k xs ≡ drop k ys
drop_later xs ys n k h e =
    let parts : n + (k - n) ≡ k = omega arith in
    ap (λ j. drop j xs) (sym parts) ∙ sym (drop-drop (k - n) n xs) ∙ ap (drop (k - n)) e ∙ drop-drop (k - n) n ys ∙ ap (λ j. drop j ys) parts

module _ (rule : Precedence) (s : Session) (m : Memory) where
  -- one event more
  pub played_more : (s₁ s₂ : Session) (m₁ m₂ : Memory) (events : List Event) (i : ℕ) (d : Event) (outcomes more : List (Result Answer Refusal)) (r : Result Answer Refusal) → i < length events → Played rule s s₁ m m₁ (take i events) outcomes → Stepped rule (get_or events i d) s₁ s₂ m₁ m₂ r → more ≡ outcomes ++ r ∷ [] → Played rule s s₂ m m₂ (take (i + 1) events) more
  played_more s₁ s₂ m₁ m₂ events i d outcomes more r h p q e =
      let event = get_or events i d in
      let start = view_of s m in
      let past = take i events in
      let longer : take (i + 1) events ≡ past ++ event ∷ [] = take_more events i d h in
      let count = (ledger_of s₂).counts.tape in
      record {
        plays = q.next ∙ ap (λ v. (step rule event v).next) p.plays ∙ sym (after_push rule start past event) ∙ ap (after rule start) (sym longer);
        answers =
            e ∙ ap (λ rs. rs ++ r ∷ []) p.answers
            ∙ ap (λ o. outcomes_of (log_of rule start past) ++ o ∷ []) (q.outcome ∙ ap (λ v. (step rule event v).outcome) p.plays)
            ∙ sym (outcomes_push rule start past event)
            ∙ ap (λ es. outcomes_of (log_of rule start es)) (sym longer);
        longer = let a = p.longer in let b = q.grows in omega arith;
        leaves = q.behind ∙ drop_later m₁.tape.now m.tape.now (ledger_of s₁).counts.tape count q.grows p.leaves;
      }

-- a run from a fresh session has the guarantee
pub ran : (rule : Precedence) → LawfulRule rule → (c : Config) (m₀ m m' : Memory) (events : List Event) (s s' : Session) (outcomes : List (Result Answer Refusal)) → may_be_made c (sizes_of (places_of m₀)) ≡ true → view_of s m ≡ start_of c m₀ → m.tape.now ≡ m₀.tape.now → Played rule s s' m m' events outcomes → Ran rule c m₀ m' events s' outcomes
ran rule lawful c m₀ m m' events s s' outcomes made starts same_tape p =
    let sizes = sizes_of (places_of m₀) in
    let start = start_of c m₀ in
    let ends : view_of s' m' ≡ after rule start events = p.plays ∙ ap (λ v. after rule v events) starts in
    let answers : outcomes_of (log_of rule start events) ≡ outcomes = sym (p.answers ∙ ap (λ v. outcomes_of (log_of rule v events)) starts) in
    record {
      made = made;
      ends = ends;
      behind = p.leaves ∙ ap (drop (ledger_of s').counts.tape) same_tape;
      log_tells = subst (λ rs. Tells events rs (view_of s' m').tape (log_of rule start events)) answers (subst (λ t. Tells events (outcomes_of (log_of rule start events)) t (log_of rule start events)) (sym (ap (λ (v : State). v.tape) ends)) (log_tells rule c sizes events));
      log_front = λ k. sym (log_take rule k start events);
      guarantee = λ k. guaranteed rule lawful c sizes made (take k events);
      stays_lawful = λ k. stays_lawful rule lawful c sizes made (take k events);
    }
