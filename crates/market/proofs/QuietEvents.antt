-- Each event that trades nothing keeps what a run keeps. Assumes nothing.
use Rattle.std.proofs.Common.{◌≡◌, ℕ, ◌+◌, true, cond, not, eqb, List, [], ◌∷◌, ◌++◌, length, take, Some, None, Err, Option, Result, sym, refl, ap, ◌∙◌, arith}
use Rattle.std.specs.List.{AllByRecursion}
use Rattle.std.proofs.lemmas.List.{append-nil, length-append, length_push}
use Rattle.std.proofs.ByRecursion.{All-append, all_kept_by, All-weaker, all_has_itself}
use Rattle.std.proofs.lemmas.Bool.{and_parts, not-false}
use Rattle.std.proofs.lemmas.Bool.Decides.{nat_tests}
use Rattle.market.specs.declared.Side.{Side}
use Rattle.market.specs.declared.Side.TheVariants.{Buy, Sell}
use Rattle.market.specs.declared.Quote.{Quote}
use Rattle.market.specs.declared.TapeRecord.{TapeRecord}
use Rattle.market.specs.declared.Pair.{Pair}
use Rattle.market.specs.declared.Duty.{Duty}
use Rattle.market.specs.declared.Event.{Event}
use Rattle.market.specs.declared.Answer.{Answer}
use Rattle.market.specs.declared.Refusal.{Refusal}
use Rattle.market.specs.Precedence.{Precedence, LawfulRule, quote_before}
use Rattle.market.specs.Lists.{placed}
use Rattle.market.specs.Serving.{other_side}
use Rattle.market.specs.State.{Phase, before_bell, trading, over, State, quotes_of, next_number, within, is_price, is_dealer, without, new_quote}
use Rattle.market.specs.Events.{refuse, accept, bell_clock, with_duties, quote_reasons, quoted, withdrawn, missed_time, late_record, late_records, becoming_late, stepped, moved_to, close_step}
use Rattle.market.specs.PlainBook.{Entry, PlainBook, after_event, plain}
use Rattle.market.specs.Guarantee.{cancelled_by}
use Rattle.market.proofs.Finds.{never, found, found_except, found_replaced}
use Rattle.market.proofs.Splits.{NoTrade}
use Rattle.market.proofs.LawfulBooks.{dealer_of, both_sides, QuotesFit, quotes_later, quotes_kept, quotes_replaced}
use Rattle.market.proofs.Kept.{IfOrder, Kept, After, entry_with, quiet_next, quiet_kept}
use Rattle.market.proofs.StepKinds.{NoneHolds}

-- a refused event is no order and no cancellation
refused_nothing : (count n : ℕ) (event : Event) (why : Refusal) → IfOrder (λ _ _ _. ⊥) count event (Err why) × (cancelled_by n event (Err why) ≡ 0)
refused_nothing count n (Event.Make config rule) why = (tt, refl)
refused_nothing count n (Event.Clock time) why = (tt, refl)
refused_nothing count n (Event.Quote dealer pair) why = (tt, refl)
refused_nothing count n (Event.Withdraw dealer) why = (tt, refl)
refused_nothing count n Event.Bell why = (tt, refl)
refused_nothing count n (Event.Order side price quantity) why = (tt, refl)
refused_nothing count n (Event.Cancel number amount) why = (tt, refl)
refused_nothing count n (Event.Click dealer number) why = (tt, refl)
refused_nothing count n Event.Close why = (tt, refl)

-- late records are no trades
late_no_trade : (t d : ℕ) (missed : Option ℕ) → AllByRecursion NoTrade (late_record t d missed)
late_no_trade t d None = tt
late_no_trade t d (Some missed) = (λ x e. never (cc), tt)

late_no_trades : (t d : ℕ) (duties : List Duty) → AllByRecursion NoTrade (late_records t d duties)
late_no_trades t d [] = tt
late_no_trades t d (x ∷ xs) = All-append NoTrade (late_record t d (missed_time t x)) (late_records t (d + 1) xs) (late_no_trade t d (missed_time t x)) (late_no_trades t (d + 1) xs)

module _ (rule : Precedence) (least : ℕ) (s : State) (log : List Entry) (k : Kept rule least s log) where
  -- an event that leaves the lists and the plain book alone
  idle : (event : Event) (outcome : Result Answer Refusal) (phase : Phase) (clock : ℕ) (duties : List Duty) (tape more : List TapeRecord) → tape ≡ s.tape ++ more → AllByRecursion NoTrade more → (phase ≡ before_bell → s.phase ≡ before_bell) → after_event least (plain least log) (entry_with s event outcome tape) ≡ plain least log → IfOrder (λ _ _ _. ⊥) (length s.tape) event outcome → ((n : ℕ) → cancelled_by n event outcome ≡ 0) → After rule least s log event (record { outcome = outcome; next = quiet_next s phase clock (quotes_of s.lists) duties tape })
  idle event outcome phase clock duties tape more grows none not_before same no_order no_cancel =
      let g = k.standing in
      quiet_kept rule least s log g event outcome phase clock (quotes_of s.lists) duties tape more
      (record {
        tape_grows = grows;
        no_trades = none;
        not_before = not_before;
        quotes_fit_still = λ side. quotes_later rule side s.config.dealers (length s.tape) (length tape) (omega (arith, simp length-append at (ap length grows))) _ (g.sound.quotes_fit side);
        quotes_told_still = λ side d. g.quotes_told side d ∙ ap (λ (book : PlainBook). book.quote side d) (sym same);
        orders_told_still = λ n. ap (λ (book : PlainBook). book.order n) same;
        no_order = no_order;
        no_cancel = no_cancel;
      })
      k.resting

  no_more : s.tape ≡ s.tape ++ []
  no_more = sym (append-nil s.tape)

  -- a refusal, a clock step, the bell and the close
  pub kept_refused : (event : Event) (why : Refusal) → After rule least s log event (refuse why s)
  kept_refused event why =
      idle event (Err why) s.phase s.clock s.duties s.tape [] no_more tt (λ e. e) refl
      (refused_nothing (length s.tape) 0 event why).0 (λ n. (refused_nothing 0 n event why).1)

  pub kept_clock : (t : ℕ) (duties : List Duty) → After rule least s log (Event.Clock t) (accept (Answer.Stepped (length (becoming_late t s))) (with_duties duties (stepped t s)))
  kept_clock t duties =
      idle (Event.Clock t) _ s.phase t duties _ (becoming_late t s) refl (late_no_trades t 1 (take s.config.dealers s.duties)) (λ e. e) refl tt (λ _. refl)

  pub kept_bell : (duties : List Duty) → After rule least s log Event.Bell (accept Answer.Rung (with_duties duties (moved_to trading bell_clock s)))
  kept_bell duties = idle Event.Bell _ trading bell_clock duties s.tape [] no_more tt (λ e. never (cc)) refl tt (λ _. refl)

  pub kept_close : After rule least s log Event.Close (close_step s)
  kept_close = idle Event.Close _ over s.clock s.duties s.tape [] no_more tt (λ e. never (cc)) refl tt (λ _. refl)

  -- ---- a withdrawal

  told_without : (d : ℕ) (side : Side) (n : ℕ) → found dealer_of n (without d (quotes_of s.lists side)) ≡ cond (eqb d n) None ((plain least log).quote side n)
  told_without d side n = found_except dealer_of d n (quotes_of s.lists side) ∙ ap (cond (eqb d n) None) (k.standing.quotes_told side n)

  pub kept_withdrawal : (d : ℕ) (duties : List Duty) → After rule least s log (Event.Withdraw d) (accept Answer.Withdrawn (with_duties duties (withdrawn d s)))
  kept_withdrawal d duties =
      let its_record = TapeRecord.Withdrawal s.clock d in
      let longer = length_push s.tape its_record in
      quiet_kept rule least s log k.standing (Event.Withdraw d) _ s.phase s.clock (λ side. without d (quotes_of s.lists side)) duties _ (its_record ∷ [])
      (record {
        tape_grows = refl;
        no_trades = (λ x e. never (cc), tt);
        not_before = λ e. e;
        quotes_fit_still = λ side. quotes_later rule side s.config.dealers (length s.tape) _ (omega arith) _ (quotes_kept rule side _ _ (λ q. not (eqb q.dealer d)) _ (k.standing.sound.quotes_fit side));
        quotes_told_still = both_sides _ (told_without d Buy) (told_without d Sell);
        orders_told_still = λ _. refl;
        no_order = tt;
        no_cancel = λ _. refl;
      })
      (λ side. all_kept_by (λ q. not (eqb q.dealer d)) _ (quotes_of s.lists (other_side side)) (k.resting side))

  -- ---- a quote before the bell, when there are no orders

  least_fits : within 1000 100000 s.config.least_quantity ≡ true
  least_fits = (and_parts _ _ (and_parts _ _ k.standing.made).1).0

  module _ (d : ℕ) (p : Pair) where
    abbrev its_record : TapeRecord
    its_record = TapeRecord.Quote s.clock d p

    abbrev its_quote : (price quantity : ℕ) → Quote
    its_quote price quantity = new_quote d price quantity (next_number s)

    abbrev with_quote : Side → (price quantity : ℕ) → List Quote
    with_quote side price quantity = placed (quote_before rule.of_quotes side) (its_quote price quantity) (without d (quotes_of s.lists side))

    told_with : (side : Side) (price quantity n : ℕ) → found dealer_of n (with_quote side price quantity) ≡ cond (eqb d n) (Some (its_quote price quantity)) ((plain least log).quote side n)
    told_with side price quantity n =
        found_replaced dealer_of (quote_before rule.of_quotes side) (its_quote price quantity) n (quotes_of s.lists side)
        ∙ ap (cond (eqb d n) (Some (its_quote price quantity))) (k.standing.quotes_told side n)

    fits_with : LawfulRule rule → (side : Side) (price quantity : ℕ) → is_dealer s.config.dealers d ≡ true → is_price price ≡ true → within s.config.least_quantity 1000000 quantity ≡ true → QuotesFit rule side s.config.dealers (length (s.tape ++ its_record ∷ [])) (with_quote side price quantity)
    fits_with lawful side price quantity dealer_fits price_fits quantity_fits =
        let longer = length_push s.tape its_record in
        let some_least = least_fits in
        quotes_replaced rule side s.config.dealers (length s.tape) lawful _ (omega arith) (its_quote price quantity) (omega arith) (grind (arith, nat_tests)) (quotes_of s.lists side) (k.standing.sound.quotes_fit side)

    pub kept_early_quote : LawfulRule rule → s.phase ≡ before_bell → NoneHolds (quote_reasons rule d p s) → After rule least s log (Event.Quote d p) (accept (Answer.Quoted 0 0) (quoted rule d p s))
    kept_early_quote lawful early none =
        let dealer_fits = not-false _ none.1.1.0 in
        let prices_fit = and_parts _ _ (not-false _ none.1.1.1.0) in
        let quantities_fit = and_parts _ _ (not-false _ none.1.1.1.1.0) in
        quiet_kept rule least s log k.standing (Event.Quote d p) _ s.phase s.clock
        (both_sides (λ _. List Quote) (with_quote Buy p.bid p.bid_quantity) (with_quote Sell p.ask p.ask_quantity)) _ _ (its_record ∷ [])
        (record {
          tape_grows = refl;
          no_trades = (λ x e. never (cc), tt);
          not_before = λ e. e;
          quotes_fit_still =
              both_sides _ (fits_with lawful Buy p.bid p.bid_quantity dealer_fits prices_fit.0 quantities_fit.0)
              (fits_with lawful Sell p.ask p.ask_quantity dealer_fits prices_fit.1 quantities_fit.1);
          quotes_told_still = both_sides _ (told_with Buy p.bid p.bid_quantity) (told_with Sell p.ask p.ask_quantity);
          orders_told_still = λ _. refl;
          no_order = tt;
          no_cancel = λ _. refl;
        })
        (λ side. rw (k.standing.early early side) (All-weaker _ _ (λ _ _. tt) _ (all_has_itself _)))
