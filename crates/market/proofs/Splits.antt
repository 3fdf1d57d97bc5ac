-- 'Best served' by recursion over the log: it can grow at the log's end, and gives the form by splits. Assumes nothing.
use Rattle.std.proofs.Common.{◌≡◌, ℕ, List, [], ◌∷◌, ◌++◌, fold, sum_by, refl, ◌∙◌, subst, arith}
use Rattle.std.specs.List.{AllByRecursion}
use Rattle.std.proofs.lemmas.List.Sums.{sum_by-cons}
use Rattle.market.specs.declared.Trade.{Trade}
use Rattle.market.specs.declared.TapeRecord.{TapeRecord}
use Rattle.market.specs.Precedence.{Precedence}
use Rattle.market.specs.PlainBook.{Entry, PlainBook, empty_book, after_event, after_record, after_records, after_entry, plain}
use Rattle.market.specs.Guarantee.{RightlyMade, BestServed, traded_of}

-- ---- a fact of each element, at what a fold has come to just before it

module _ {A B : Type 0} (f : B → A → B) (P : B → A → Type 0) where
  abbrev pub Along : B → List A → Type 0
  Along b [] = Unit {0}
  Along b (x ∷ xs) = P b x × Along (f b x) xs

  pub along_at : (past : List A) (b : B) (x : A) (rest : List A) → Along b (past ++ x ∷ rest) → P (fold f b past) x
  along_at [] b x rest h = h.0
  along_at (y ∷ ys) b x rest h = along_at ys (f b y) x rest h.1

  pub along_append : (xs : List A) (b : B) (ys : List A) → Along b xs → Along (fold f b xs) ys → Along b (xs ++ ys)
  along_append [] b ys h k = k
  along_append (x ∷ xs) b ys h k = (h.0, along_append xs (f b x) ys h.1 k)

-- ---- a log in which every trade was rightly made

-- a record, where it is a trade, was rightly made
abbrev pub RecordRight : Precedence → PlainBook → TapeRecord → Type 0
RecordRight rule book r = (t : Trade) → r ≡ TapeRecord.Trade t → RightlyMade rule book t

-- each of some records, with the book as it was just before it
abbrev pub RecordsRight : Precedence → PlainBook → List TapeRecord → Type 0
RecordsRight rule book rs = Along after_record (RecordRight rule) book rs

-- the records of an entry, with the book as it was before its event
abbrev pub EntryRight : Precedence → (least : ℕ) → PlainBook → Entry → Type 0
EntryRight rule least book e = RecordsRight rule (after_event least book e) e.added

-- each entry of a log
abbrev pub LogRight : Precedence → (least : ℕ) → List Entry → Type 0
LogRight rule least log = Along (after_entry least) (EntryRight rule least) empty_book log

-- the recursive form gives the one by splits
pub best_served_from : (rule : Precedence) (least : ℕ) (log : List Entry) → LogRight rule least log → BestServed rule least log
best_served_from rule least log right past e rest p earlier t later q =
    let entry = along_at (after_entry least) (EntryRight rule least) past empty_book e rest (subst (LogRight rule least) p right) in
    let before = after_event least (plain least past) e in
    along_at after_record (RecordRight rule) earlier before (TapeRecord.Trade t) later (subst (RecordsRight rule before) q entry) t refl

-- ---- records that are no trades

abbrev pub NoTrade : TapeRecord → Type 0
NoTrade r = (t : Trade) → r ≡ TapeRecord.Trade t → ⊥

-- such a record changes no plain book, and trades nothing of any order
no_trade_tells : (r : TapeRecord) → NoTrade r → (book : PlainBook) (n : ℕ) → (after_record book r ≡ book) × (traded_of n r ≡ 0)
no_trade_tells (TapeRecord.Quote time dealer pair) none book n = (refl, refl)
no_trade_tells (TapeRecord.Withdrawal time dealer) none book n = (refl, refl)
no_trade_tells (TapeRecord.Order time side price quantity) none book n = (refl, refl)
no_trade_tells (TapeRecord.Cancellation time side number quantity) none book n = (refl, refl)
no_trade_tells (TapeRecord.Click time dealer side number price taken entered) none book n = (refl, refl)
no_trade_tells (TapeRecord.Trade t) none book n = absurd (none t refl)
no_trade_tells (TapeRecord.Late time dealer missed) none book n = (refl, refl)
no_trade_tells (TapeRecord.Halt time direction) none book n = (refl, refl)

pub no_trades_change_nothing : (rs : List TapeRecord) → AllByRecursion NoTrade rs → (book : PlainBook) → after_records book rs ≡ book
no_trades_change_nothing [] none book = refl
no_trades_change_nothing (r ∷ rs) none book = no_trades_change_nothing rs none.1 (after_record book r) ∙ (no_trade_tells r none.0 book 0).0

pub no_trades_sum : (rs : List TapeRecord) → AllByRecursion NoTrade rs → (n : ℕ) → sum_by (traded_of n) rs ≡ 0
no_trades_sum [] none n = refl
no_trades_sum (r ∷ rs) none n =
    let first = (no_trade_tells r none.0 empty_book n).1 in
    let more = no_trades_sum rs none.1 n in
    let all = sum_by-cons (traded_of n) r rs in
    omega arith

pub no_trades_right : (rule : Precedence) (rs : List TapeRecord) → AllByRecursion NoTrade rs → (book : PlainBook) → RecordsRight rule book rs
no_trades_right rule [] none book = tt
no_trades_right rule (r ∷ rs) none book = (λ t e. absurd (none.0 t e), no_trades_right rule rs none.1 (after_record book r))
