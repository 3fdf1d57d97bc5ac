-- What a run keeps from event to event, and what an event that trades nothing leaves of it. Assumes nothing.
use Rattle.std.proofs.Common.{◌≡◌, ℕ, ◌+◌, ◌<◌, ◌≤◌, true, false, List, [], ◌∷◌, ◌++◌, length, drop, Some, None, Ok, Err, sum_by, Option, Result, sym, refl, ap, ◌∙◌, subst, arith}
use Rattle.std.specs.List.{ContainsAt as Has, AllByRecursion}
use Rattle.std.proofs.lemmas.List.{append-nil, append_assoc, length-append, drop_at}
use Rattle.std.proofs.ByRecursion.{All-weaker, All-push, all-has}
use Rattle.std.proofs.lemmas.List.Sums.{fold_push, sum_by-append, sum_by_push}
use Rattle.market.specs.declared.Side.{Side}
use Rattle.market.specs.declared.Side.TheVariants.{Buy, Sell}
use Rattle.market.specs.declared.Quote.{Quote}
use Rattle.market.specs.declared.Order.{Order}
use Rattle.market.specs.declared.TapeRecord.{TapeRecord}
use Rattle.market.specs.declared.Duty.{Duty}
use Rattle.market.specs.declared.Event.{Event}
use Rattle.market.specs.declared.Answer.{Answer}
use Rattle.market.specs.declared.Refusal.{Refusal}
use Rattle.market.specs.Precedence.{Precedence}
use Rattle.market.specs.Serving.{other_side, can_serve}
use Rattle.market.specs.State.{Phase, before_bell, State, quotes_of, orders_of}
use Rattle.market.specs.Events.{Step, may_be_made}
use Rattle.market.specs.PlainBook.{Entry, empty_book, if_on, order_on, after_event, after_entry, plain, tape_of}
use Rattle.market.specs.Guarantee.{cancelled_by, cancelled_of, found_again, left_in, traded_of, told_number, Accounted, Guarantee}
use Rattle.market.proofs.InOrder.{Chain}
use Rattle.market.proofs.Finds.{found, found_is, found_own, chain_left, chain_right, differ}
use Rattle.market.proofs.Splits.{LogRight, along_append, best_served_from, NoTrade, no_trades_change_nothing, no_trades_sum, no_trades_right}
use Rattle.market.proofs.LawfulBooks.{dealer_of, number_of, both_sides, QuotesFit, Sound, orders_later}

-- ---- what is kept

-- no quote of the first list can serve an order of the second, which is of that side
abbrev pub NoService : Side → List Quote → List Order → Type 0
NoService side qs os = AllByRecursion (λ q. AllByRecursion (λ o. can_serve side q o ≡ false) os) qs

-- by sides, no quote can serve an order
abbrev pub Resting : (Side → List Quote) → (Side → List Order) → Type 0
Resting quotes orders = (side : Side) → NoService side (quotes (other_side side)) (orders side)

-- what is asked of an accepted order: that it was told its number, and of its side, its quantity and that number
abbrev pub IfOrder : (Side → (quantity number : ℕ) → Type 0) → (count : ℕ) → Event → Result Answer Refusal → Type 0
IfOrder P count (Event.Make config rule) r = Unit {0}
IfOrder P count (Event.Clock time) r = Unit {0}
IfOrder P count (Event.Quote dealer pair) r = Unit {0}
IfOrder P count (Event.Withdraw dealer) r = Unit {0}
IfOrder P count Event.Bell r = Unit {0}
IfOrder P count (Event.Order side price quantity) (Ok answer) = (told_number answer ≡ Some (count + 1)) × P side quantity (count + 1)
IfOrder P count (Event.Order side price quantity) (Err why) = Unit {0}
IfOrder P count (Event.Cancel number amount) r = Unit {0}
IfOrder P count (Event.Click dealer number) r = Unit {0}
IfOrder P count Event.Close r = Unit {0}

-- an accepted order: its shares are found again, its number was given, and no order of the other side has it
pub record Held (s : State) (log : List Entry) (side : Side) (quantity n : ℕ) : Type 0 where
  pub all_found : quantity ≡ found_again s.lists log side n
  pub given : n ≤ length s.tape
  pub one_side : found number_of n (orders_of s.lists (other_side side)) ≡ None

-- what holds from record to record: all but that the lists are at rest
pub record Standing (rule : Precedence) (least : ℕ) (s : State) (log : List Entry) : Type 0 where
  pub made : may_be_made s.config s.made_with ≡ true
  pub least_is : s.config.least_quantity ≡ least
  pub sound : Sound rule s
  -- the orders have room
  pub room : (length s.lists.buys ≤ s.made_with.buy_places) × (length s.lists.sells ≤ s.made_with.sell_places)
  -- a look-up in a list is one in the plain book
  pub quotes_told : (side : Side) (d : ℕ) → found dealer_of d (quotes_of s.lists side) ≡ (plain least log).quote side d
  pub orders_told : (side : Side) (n : ℕ) → found number_of n (orders_of s.lists side) ≡ order_on (plain least log) side n
  -- there are no orders before the bell
  pub early : s.phase ≡ before_bell → (side : Side) → orders_of s.lists side ≡ []
  pub right : LogRight rule least log
  pub held : AllByRecursion (λ (e : Entry). IfOrder (Held s log) e.count_before e.event e.outcome) log
  -- nothing is found of a number that was not given
  pub unused : (side : Side) (n : ℕ) → length s.tape < n → found_again s.lists log side n ≡ 0
  pub tape_told : tape_of log ≡ s.tape

-- what holds from event to event
pub record Kept (rule : Precedence) (least : ℕ) (s : State) (log : List Entry) : Type 0 where
  pub standing : Standing rule least s log
  pub resting : Resting (quotes_of s.lists) (orders_of s.lists)

-- ---- the guarantee, from what is kept

-- what follows for each accepted order follows for each entry
if_order_weaker : (P Q : Side → ℕ → ℕ → Type 0) → ((side : Side) (quantity n : ℕ) → P side quantity n → Q side quantity n) → (count : ℕ) (event : Event) (r : Result Answer Refusal) → IfOrder P count event r → IfOrder Q count event r
if_order_weaker P Q f count (Event.Make config rule) r h = tt
if_order_weaker P Q f count (Event.Clock time) r h = tt
if_order_weaker P Q f count (Event.Quote dealer pair) r h = tt
if_order_weaker P Q f count (Event.Withdraw dealer) r h = tt
if_order_weaker P Q f count Event.Bell r h = tt
if_order_weaker P Q f count (Event.Order side price quantity) (Ok answer) h = (h.0, f side quantity (count + 1) h.1)
if_order_weaker P Q f count (Event.Order side price quantity) (Err why) h = tt
if_order_weaker P Q f count (Event.Cancel number amount) r h = tt
if_order_weaker P Q f count (Event.Click dealer number) r h = tt
if_order_weaker P Q f count Event.Close r h = tt

accounted_from : (s : State) (log : List Entry) (count : ℕ) (event : Event) (r : Result Answer Refusal) → IfOrder (Held s log) count event r → Accounted s.lists log count event r
accounted_from s log count (Event.Make config rule) r h = tt
accounted_from s log count (Event.Clock time) r h = tt
accounted_from s log count (Event.Quote dealer pair) r h = tt
accounted_from s log count (Event.Withdraw dealer) r h = tt
accounted_from s log count Event.Bell r h = tt
accounted_from s log count (Event.Order side price quantity) (Ok answer) h = (h.0, h.1.all_found)
accounted_from s log count (Event.Order side price quantity) (Err why) h = tt
accounted_from s log count (Event.Cancel number amount) r h = tt
accounted_from s log count (Event.Click dealer number) r h = tt
accounted_from s log count Event.Close r h = tt

-- where numbers differ and each look-up in a list is one by t, the list has just what t has
module _ {T : Type 0} (number : T → ℕ) (xs : List T) (t : ℕ → Option T) (same : (n : ℕ) → found number n xs ≡ t n) where
  stands : Chain (differ number) xs → (x : T) → Has xs x → t (number x) ≡ Some x
  stands apart x here = sym (same (number x)) ∙ all-has (λ y. found number (number y) xs ≡ Some y) xs x (found_own number xs apart) here

  listed : (n : ℕ) (x : T) → t n ≡ Some x → Has xs x
  listed n x e = (found_is number n xs x (same n ∙ e)).1

orders_differ : (rule : Precedence) (s : State) → Sound rule s → (side : Side) → Chain (differ number_of) (orders_of s.lists side)
orders_differ rule s h Buy = chain_left (differ number_of) s.lists.buys s.lists.sells h.numbers_differ
orders_differ rule s h Sell = chain_right (differ number_of) s.lists.buys s.lists.sells h.numbers_differ

-- what is kept gives the guarantee
pub guarantee_from : (rule : Precedence) (least : ℕ) (s : State) (log : List Entry) → Kept rule least s log → Guarantee rule least s.lists log
guarantee_from rule least s log k =
    let g = k.standing in
    record {
      in_order_and_at_rest = record {
        quotes_stand = λ side. stands dealer_of (quotes_of s.lists side) ((plain least log).quote side) (g.quotes_told side) (g.sound.quotes_fit side).1.0;
        quotes_listed = λ side. listed dealer_of (quotes_of s.lists side) ((plain least log).quote side) (g.quotes_told side);
        orders_stand = λ side. stands number_of (orders_of s.lists side) (order_on (plain least log) side) (g.orders_told side) (orders_differ rule s g.sound side);
        orders_listed = λ side. listed number_of (orders_of s.lists side) (order_on (plain least log) side) (g.orders_told side);
        quotes_in_order = λ side. (g.sound.quotes_fit side).1.1;
        orders_in_order = λ side. (g.sound.orders_fit side).1;
        at_rest = λ side q o here there. all-has (λ x. can_serve side q x ≡ false) (orders_of s.lists side) o (all-has _ (quotes_of s.lists (other_side side)) q (k.resting side) here) there;
      };
      best_served = best_served_from rule least log g.right;
      nothing_lost = All-weaker _ _ (λ (e : Entry). accounted_from s log e.count_before e.event e.outcome) log g.held;
    }

-- ---- one entry more

-- the entry of an event in the log, by what came of it and the tape that it left
abbrev pub entry_with : State → Event → Result Answer Refusal → (tape : List TapeRecord) → Entry
entry_with s event outcome tape = record { event = event; outcome = outcome; count_before = length s.tape; added = drop (length s.tape) tape }

-- what is kept after an event of which p came
abbrev pub After : Precedence → (least : ℕ) → State → List Entry → Event → Step → Type 0
After rule least s log event p = Kept rule least p.next (log ++ entry_with s event p.outcome p.next.tape ∷ [])

-- the tape of a log with one entry more
pub tape_of_push : (log : List Entry) (e : Entry) → tape_of (log ++ e ∷ []) ≡ tape_of log ++ e.added
tape_of_push [] e = append-nil e.added
tape_of_push (x ∷ xs) e = ap (λ rs. x.added ++ rs) (tape_of_push xs e) ∙ sym (append_assoc x.added (tape_of xs) e.added)

-- a session after an event that traded nothing and left the orders alone
abbrev pub quiet_next : State → Phase → (clock : ℕ) → (Side → List Quote) → List Duty → (tape : List TapeRecord) → State
quiet_next s phase clock quotes duties tape = record {
  config = s.config;
  made_with = s.made_with;
  lent_now = s.lent_now;
  phase = phase;
  clock = clock;
  halted = s.halted;
  shares = s.shares;
  value = s.value;
  lists = record { bids = quotes Buy; asks = quotes Sell; buys = s.lists.buys; sells = s.lists.sells };
  duties = duties;
  tape = tape;
}

-- what such an event has to show, where `more` are the records that it added
pub record Quiet (rule : Precedence) (least : ℕ) (s : State) (log : List Entry) (event : Event) (outcome : Result Answer Refusal) (phase : Phase) (quotes : Side → List Quote) (tape more : List TapeRecord) : Type 0 where
  pub tape_grows : tape ≡ s.tape ++ more
  pub no_trades : AllByRecursion NoTrade more
  pub not_before : phase ≡ before_bell → s.phase ≡ before_bell
  pub quotes_fit_still : (side : Side) → QuotesFit rule side s.config.dealers (length tape) (quotes side)
  pub quotes_told_still : (side : Side) (d : ℕ) → found dealer_of d (quotes side) ≡ (after_event least (plain least log) (entry_with s event outcome tape)).quote side d
  pub orders_told_still : (n : ℕ) → (after_event least (plain least log) (entry_with s event outcome tape)).order n ≡ (plain least log).order n
  pub no_order : IfOrder (λ _ _ _. ⊥) (length s.tape) event outcome
  pub no_cancel : (n : ℕ) → cancelled_by n event outcome ≡ 0

module _ (rule : Precedence) (least : ℕ) (s : State) (log : List Entry) (g : Standing rule least s log) (event : Event) (outcome : Result Answer Refusal) (phase : Phase) (clock : ℕ) (quotes : Side → List Quote) (duties : List Duty) (tape more : List TapeRecord) (q : Quiet rule least s log event outcome phase quotes tape more) where
  abbrev then : State
  then = quiet_next s phase clock quotes duties tape

  abbrev new_entry : Entry
  new_entry = entry_with s event outcome tape

  abbrev new_log : List Entry
  new_log = log ++ new_entry ∷ []

  added_is : new_entry.added ≡ more
  added_is = ap (drop (length s.tape)) q.tape_grows ∙ drop_at s.tape more (length s.tape) refl

  none_traded : AllByRecursion NoTrade new_entry.added
  none_traded = subst (AllByRecursion NoTrade) (sym added_is) q.no_trades

  -- the plain book is as the event by itself leaves it
  plain_is : plain least new_log ≡ after_event least (plain least log) new_entry
  plain_is = fold_push (after_entry least) empty_book log new_entry ∙ no_trades_change_nothing new_entry.added none_traded (after_event least (plain least log) new_entry)

  longer : length s.tape ≤ length tape
  longer = omega (arith, simp length-append at (ap length q.tape_grows))

  quotes_are : (side : Side) → quotes_of then.lists side ≡ quotes side
  quotes_are = both_sides _ refl refl

  orders_are : (side : Side) → orders_of then.lists side ≡ orders_of s.lists side
  orders_are = both_sides _ refl refl

  -- just as many shares of each order are found again
  found_still : (side : Side) (n : ℕ) → found_again then.lists new_log side n ≡ found_again s.lists log side n
  found_still side n =
      let on_tape : sum_by (traded_of n) (tape_of new_log) ≡ sum_by (traded_of n) (tape_of log) + sum_by (traded_of n) new_entry.added = ap (sum_by (traded_of n)) (tape_of_push log new_entry) ∙ sum_by-append (traded_of n) (tape_of log) new_entry.added in
      let not_traded = no_trades_sum new_entry.added none_traded n in
      let in_List = ap (left_in n) (orders_are side) in
      let cancelled = sum_by_push (cancelled_of n) log new_entry in
      let not_cancelled = q.no_cancel n in
      omega arith

  held_still : (side : Side) (quantity n : ℕ) → Held s log side quantity n → Held then new_log side quantity n
  held_still side quantity n h = record {
    all_found = h.all_found ∙ sym (found_still side n);
    given = let k = h.given in let l = longer in omega arith;
    one_side = ap (found number_of n) (orders_are (other_side side)) ∙ h.one_side;
  }

  -- an event that trades nothing and leaves the orders alone
  pub quiet : Standing rule least then new_log
  quiet = record {
    made = g.made;
    least_is = g.least_is;
    sound = record {
      lent_again = g.sound.lent_again;
      quotes_fit = λ side. rw (quotes_are side) (q.quotes_fit_still side);
      orders_fit = λ side. rw (orders_are side) (orders_later rule side (length s.tape) (length tape) longer _ (g.sound.orders_fit side));
      numbers_differ = g.sound.numbers_differ;
    };
    room = g.room;
    quotes_told = λ side d. rw (quotes_are side, plain_is) (q.quotes_told_still side d);
    orders_told = λ side n. rw (orders_are side, plain_is) (g.orders_told side n ∙ ap (if_on side) (sym (q.orders_told_still n)));
    early = λ e side. orders_are side ∙ g.early (q.not_before e) side;
    right = along_append _ _ log empty_book _ g.right (no_trades_right rule new_entry.added none_traded _, tt);
    held =
        All-push _ log new_entry
        (All-weaker _ _ (λ (x : Entry). if_order_weaker (Held s log) _ held_still x.count_before x.event x.outcome) log g.held)
        (if_order_weaker (λ _ _ _. ⊥) (Held then new_log) (λ side quantity n none. absurd none) (length s.tape) event outcome q.no_order);
    unused = λ side n l. found_still side n ∙ g.unused side n (let k = longer in omega arith);
    tape_told = tape_of_push log new_entry ∙ ap (λ rs. rs ++ new_entry.added) g.tape_told ∙ ap (λ rs. s.tape ++ rs) added_is ∙ sym q.tape_grows;
  }

  -- the same, where no quote can serve an order afterwards
  pub quiet_kept : Resting quotes (orders_of s.lists) → Kept rule least then new_log
  quiet_kept rest = record { standing = quiet; resting = λ side. rw (quotes_are (other_side side), orders_are side) (rest side) }
