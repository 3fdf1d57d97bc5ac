-- The two ways out of a call: refused with nothing changed, or accepted. Assumes nothing.
use Rattle.std.proofs.Common.{◌≡◌, ℕ, ◌≤◌, drop, Some, None, Ok, Err, Option, Result, sym, refl, ap, ◌∙◌, subst, arith}
use Rattle.market.specs.declared.Answer.{Answer}
use Rattle.market.specs.declared.Refusal.{Refusal}
use Rattle.market.specs.State.{Phase, State}
use Rattle.market.specs.Events.{Step, unless, accept, settled}
use Rattle.market.proofs.Finds.{never}
use Rattle.book.specs.declared.memory.Memory.{Memory}
use Rattle.session.specs.declared.ledger.Ledger.{Ledger}
use Rattle.session.specs.View.{view, unless_refused, Did, Became, Settled}

module _ (phase : Phase) (l : Ledger) (m : Memory) where
  -- by the first reason that holds
  pub refused : (o : Option Refusal) (why : Refusal) (a : Step) → Err why ≡ unless_refused o → Did (unless o (view phase l m) a) phase l l m m (Err why)
  refused None why a e = never (cc)
  refused (Some w) why a e = record {
    outcome = ap (λ (r : Result (Unit {0}) Refusal). told r) e;
    next = refl;
    grows = omega arith;
    behind = refl;
    untouched = record {
      same_ledger = refl;
      same_memory = record { same_bids = refl; same_asks = refl; same_buys = refl; same_sells = refl; same_duties = refl; same_tape = refl };
    };
  }
    where
      told : Result (Unit {0}) Refusal → Result Answer Refusal
      told (Ok done) = Ok Answer.Made
      told (Err why') = Err why'

  -- where none holds
  pub accepted : (o : Option Refusal) (phase' : Phase) (l' : Ledger) (m' : Memory) (answer : Answer) (s : State) → Ok tt ≡ unless_refused o → view phase' l' m' ≡ s → l.counts.tape ≤ l'.counts.tape → drop l'.counts.tape m'.tape.now ≡ drop l'.counts.tape m.tape.now → Did (unless o (view phase l m) (accept answer s)) phase' l l' m m' (Ok answer)
  accepted None phase' l' m' answer s e n g b = record { outcome = refl; next = n; grows = g; behind = b; untouched = tt }
  accepted (Some w) phase' l' m' answer s e n g b = never (cc)

module _ (phase : Phase) (f : State → State) (l l' : Ledger) (m m' m'' : Memory) (b : Became f l l' m m') (s : Settled phase l' m' m'') where
  -- what an event wrote, with the duties brought up to date
  pub settled_then : view phase l' m'' ≡ settled (f (view phase l m))
  settled_then = s.settles ∙ ap settled (b.becomes phase)

  pub left_behind : drop l'.counts.tape m''.tape.now ≡ drop l'.counts.tape m.tape.now
  left_behind = ap (drop l'.counts.tape) s.keeps_tape ∙ b.leaves

-- an answer may be given by another name for its number
pub answered : (step : Step) (phase : Phase) (l l' : Ledger) (m m' : Memory) (n k : ℕ) → n ≡ k → Did step phase l l' m m' (Ok (Answer.Stepped k)) → Did step phase l l' m m' (Ok (Answer.Stepped n))
answered step phase l l' m m' n k e d = subst (λ j. Did step phase l l' m m' (Ok (Answer.Stepped j))) (sym e) d
