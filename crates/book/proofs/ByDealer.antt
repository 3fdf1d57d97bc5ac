-- Duties by dealer: a loop that changes those of the first dealers, and one that tells who is late. Assumes nothing.
use Rattle.std.proofs.Common.{◌≡◌, ℕ, suc, ◌+◌, ◌-◌, ◌<◌, ◌≤◌, cond, List, [], ◌∷◌, ◌++◌, length, get_or, take, drop, set, is_some, Some, None, count_by, min, Option, sym, refl, ap, ◌∙◌, inl, inr, arith, rules}
use Rattle.std.proofs.lemmas.List.{append_assoc, append-nil, length-append, length-take-le, drop_more, take_more, set_at, get_or_at, take_more_set, drop-set-lt, take_all, drop_all, set_past, places, same_lists, set-get_or, take-take, take-append-drop, drop-drop}
use borrow.Rule.Slice.PartMut.{put_mid}
use Rattle.std.proofs.lemmas.Bool.{cases_lt}
use Rattle.std.proofs.lemmas.List.Recursion.{is_count_by}
use Rattle.market.specs.declared.Duty.{Duty}
use Rattle.market.specs.declared.TapeRecord.{TapeRecord}
use Rattle.market.specs.Events.{numbered, of_dealers, missed_time, late_record, late_records}

length_numbered : {A B : Type 0} (f : ℕ → A → B) (n : ℕ) (xs : List A) → length (numbered f n xs) ≡ length xs
length_numbered f n [] = refl
length_numbered f n (x ∷ xs) = ap suc (length_numbered f (n + 1) xs)

numbered_push : {A B : Type 0} (f : ℕ → A → B) (n : ℕ) (xs : List A) (y : A) → numbered f n (xs ++ y ∷ []) ≡ numbered f n xs ++ f (n + length xs) y ∷ []
numbered_push f n [] y = let e : n ≡ n + 0 = omega arith in ap (λ k. f k y ∷ []) e
numbered_push f n (x ∷ xs) y =
    let e : n + 1 + length xs ≡ n + suc (length xs) = omega arith in
    ap (λ zs. f n x ∷ zs) (numbered_push f (n + 1) xs y ∙ ap (λ k. numbered f (n + 1) xs ++ f k y ∷ []) e)

within_more : (f : ℕ → Duty → Duty) (ds zs : List Duty) (i : ℕ) (e v : Duty) → i < length ds → zs ≡ of_dealers f i ds → v ≡ f (i + 1) (get_or zs i e) → set zs i v ≡ of_dealers f (i + 1) ds
within_more f ds zs i e v h is changed =
    let front = numbered f 1 (take i ds) in
    let x = get_or ds i e in
    let long : length front ≡ i = length_numbered f 1 (take i ds) ∙ length-take-le i ds (omega arith) in
    let here : drop i ds ≡ x ∷ drop (i + 1) ds = drop_more ds i e h in
    let whole : zs ≡ front ++ x ∷ drop (i + 1) ds = is ∙ ap (λ ys. front ++ ys) here in
    let read : get_or zs i e ≡ x = ap (λ ys. get_or ys i e) whole ∙ get_or_at front x (drop (i + 1) ds) e i long in
    let number : 1 + length (take i ds) ≡ i + 1 = ap (λ k. 1 + k) (length-take-le i ds (omega arith)) ∙ omega arith in
    let more : numbered f 1 (take (i + 1) ds) ≡ front ++ f (i + 1) x ∷ [] = ap (numbered f 1) (take_more ds i e h) ∙ numbered_push f 1 (take i ds) x ∙ ap (λ k. front ++ f k x ∷ []) number in
    ap (λ ys. set ys i v) whole
    ∙ set_at front x (drop (i + 1) ds) v i long
    ∙ ap (λ w. front ++ w ∷ drop (i + 1) ds) (changed ∙ ap (f (i + 1)) read)
    ∙ sym (append_assoc front (f (i + 1) x ∷ []) (drop (i + 1) ds))
    ∙ ap (λ ys. ys ++ drop (i + 1) ds) (sym more)

-- past the last duty nothing is left to change
past_all : (f : ℕ → Duty → Duty) (ds : List Duty) (i : ℕ) → length ds ≤ i → of_dealers f i ds ≡ numbered f 1 ds
past_all f ds i h = rw (take_all i ds h, drop_all i ds h) (append-nil (numbered f 1 ds))

-- the duty at place i, of dealer i + 1, is changed where those before it are
of_dealers_more : (f : ℕ → Duty → Duty) (ds zs : List Duty) (i : ℕ) (e v : Duty) → zs ≡ of_dealers f i ds → v ≡ f (i + 1) (get_or zs i e) → set zs i v ≡ of_dealers f (i + 1) ds
of_dealers_more f ds zs i e v is changed =
    elim (cases_lt i (length ds)) [
      | inl h ↦ within_more f ds zs i e v h is changed
      | inr h ↦
          let all = is ∙ past_all f ds i h in
          let short : length zs ≤ i = rw (all, length_numbered f 1 ds) h in
          set_past zs i v short ∙ all ∙ sym (past_all f ds (i + 1) (omega arith))
    ]

module _ (f : ℕ → Duty → Duty) (ds : List Duty) (dealers : ℕ) where
  -- one dealer more
  pub one_more : (zs : List Duty) (i : ℕ) (e v : Duty) → i < dealers → zs ≡ of_dealers f (min i dealers) ds → v ≡ f (i + 1) (get_or zs i e) → set zs i v ≡ of_dealers f (min (i + 1) dealers) ds
  one_more zs i e v h is changed =
      let here : min i dealers ≡ i = omega arith in
      let next : min (i + 1) dealers ≡ i + 1 = omega arith in
      rw next (of_dealers_more f ds zs i e v (rw here at is) changed)

  -- behind the last dealer nothing changes
  pub no_more : (zs : List Duty) (i : ℕ) (e : Duty) → dealers ≤ i → zs ≡ of_dealers f (min i dealers) ds → set zs i (get_or zs i e) ≡ of_dealers f (min (i + 1) dealers) ds
  no_more zs i e h is = let same : min i dealers ≡ min (i + 1) dealers = omega arith in set-get_or zs i e ∙ rw (← same) is

  -- at the end of the duties
  pub at_end : (zs : List Duty) (i : ℕ) → length ds ≤ i → zs ≡ of_dealers f (min i dealers) ds → zs ≡ of_dealers f dealers ds
  at_end zs i h is =
      elim (cases_lt i dealers) [
        | inl k ↦
            let here : min i dealers ≡ i = omega arith in
            rw here at is ∙ past_all f ds i h ∙ sym (past_all f ds dealers (omega arith))
        | inr k ↦ let here : min i dealers ≡ dealers = omega arith in rw here at is
      ]

length_late : (t d : ℕ) (o : Option ℕ) → length (late_record t d o) ≡ cond (is_some o) 1 0
length_late t d None = refl
length_late t d (Some x) = refl

-- whether a dealer is late, for each of these
abbrev lates : (t : ℕ) → List Duty → ℕ
lates t [] = 0
lates t (d ∷ ds) = cond (is_some (missed_time t d)) (1 + lates t ds) (lates t ds)

lates_are : (t n : ℕ) (ds : List Duty) → length (late_records t n ds) ≡ lates t ds
lates_are t n [] = refl
lates_are t n (d ∷ ds) =
    let all = length-append (late_record t n (missed_time t d)) (late_records t (n + 1) ds) in
    let one = length_late t n (missed_time t d) in
    let rest = lates_are t (n + 1) ds in
    grind (arith, all, one, rest)

-- how many are late
pub late_count : (t n : ℕ) (ds : List Duty) → length (late_records t n ds) ≡ count_by (λ d. is_some (missed_time t d)) ds
late_count t n ds = lates_are t n ds ∙ is_count_by (lates t) (λ d. is_some (missed_time t d)) refl (λ d zs. refl) ds

late_push : (t n : ℕ) (xs : List Duty) (y : Duty) → late_records t n (xs ++ y ∷ []) ≡ late_records t n xs ++ late_record t (n + length xs) (missed_time t y)
late_push t n [] y = let e : n ≡ n + 0 = omega arith in append-nil (late_record t n (missed_time t y)) ∙ ap (λ k. late_record t k (missed_time t y)) e
late_push t n (x ∷ xs) y =
    let e : n + 1 + length xs ≡ n + suc (length xs) = omega arith in
    ap (λ zs. late_record t n (missed_time t x) ++ zs) (late_push t (n + 1) xs y ∙ ap (λ k. late_records t (n + 1) xs ++ late_record t k (missed_time t y)) e)
    ∙ sym (append_assoc (late_record t n (missed_time t x)) (late_records t (n + 1) xs) (late_record t (n + suc (length xs)) (missed_time t y)))

within_late : (t : ℕ) (ds : List Duty) (i : ℕ) (e : Duty) (o : Option ℕ) → i < length ds → o ≡ missed_time t (get_or ds i e) → late_records t 1 (take (i + 1) ds) ≡ late_records t 1 (take i ds) ++ late_record t (i + 1) o
within_late t ds i e o h is =
    let number : 1 + length (take i ds) ≡ i + 1 = ap (λ k. 1 + k) (length-take-le i ds (omega arith)) ∙ omega arith in
    ap (late_records t 1) (take_more ds i e h)
    ∙ late_push t 1 (take i ds) (get_or ds i e)
    ∙ ap (λ k. late_records t 1 (take i ds) ++ late_record t k (missed_time t (get_or ds i e))) number
    ∙ ap (λ p. late_records t 1 (take i ds) ++ late_record t (i + 1) p) (sym is)

late_append : (t n : ℕ) (xs ys : List Duty) → late_records t n (xs ++ ys) ≡ late_records t n xs ++ late_records t (n + length xs) ys
late_append t n [] ys = let e : n ≡ n + 0 = omega arith in ap (λ k. late_records t k ys) e
late_append t n (x ∷ xs) ys =
    let e : n + 1 + length xs ≡ n + suc (length xs) = omega arith in
    ap (λ zs. late_record t n (missed_time t x) ++ zs) (late_append t (n + 1) xs ys ∙ ap (λ k. late_records t (n + 1) xs ++ late_records t k ys) e)
    ∙ sym (append_assoc (late_record t n (missed_time t x)) (late_records t (n + 1) xs) (late_records t (n + suc (length xs)) ys))

-- of more dealers no fewer are late
late_grows : (t : ℕ) (ds : List Duty) (i n : ℕ) → i ≤ n → length (late_records t 1 (take i ds)) ≤ length (late_records t 1 (take n ds))
late_grows t ds i n h =
    let parts : take n ds ≡ take i ds ++ drop i (take n ds) = sym (ap (λ xs. xs ++ drop i (take n ds)) (sym (take-take i n ds h)) ∙ take-append-drop i (take n ds)) in
    let told = ap length (ap (late_records t 1) parts ∙ late_append t 1 (take i ds) (drop i (take n ds))) ∙ length-append (late_records t 1 (take i ds)) (late_records t (1 + length (take i ds)) (drop i (take n ds))) in
    omega arith

-- what a loop that tells who is late has written after i dealers, to the free places of a tape
pub record Told (t : ℕ) (ds : List Duty) (free now_free : List TapeRecord) (told i : ℕ) : Type 0 where
  pub counted : told ≡ length (late_records t 1 (take i ds))
  pub written : take told now_free ≡ late_records t 1 (take i ds)
  pub behind : drop told now_free ≡ drop told free

module _ (t : ℕ) (ds : List Duty) (free : List TapeRecord) where
  pub told_none : Told t ds free free 0 0
  told_none = record { counted = refl; written = refl; behind = refl }

  module _ (now_free : List TapeRecord) (told i : ℕ) (h : i < length ds) where
    -- a dealer that is in time
    pub told_same : [] ≡ late_record t (i + 1) (missed_time t (get_or ds i Duty.InOrder)) → Told t ds free now_free told i → Told t ds free now_free told (i + 1)
    told_same none s =
        let same : late_records t 1 (take i ds) ≡ late_records t 1 (take (i + 1) ds) = sym (within_late t ds i Duty.InOrder _ h refl ∙ ap (λ rs. late_records t 1 (take i ds) ++ rs) (sym none) ∙ append-nil (late_records t 1 (take i ds))) in
        record { counted = s.counted ∙ ap length same; written = s.written ∙ same; behind = s.behind }

    module _ (r : TapeRecord) (is : r ∷ [] ≡ late_record t (i + 1) (missed_time t (get_or ds i Duty.InOrder))) (room : length (late_records t 1 ds) ≤ length free) (s : Told t ds free now_free told i) where
      more : late_records t 1 (take (i + 1) ds) ≡ late_records t 1 (take i ds) ++ r ∷ []
      more = within_late t ds i Duty.InOrder _ h refl ∙ ap (λ rs. late_records t 1 (take i ds) ++ rs) (sym is)

      longer : length (late_records t 1 (take (i + 1) ds)) ≡ length (late_records t 1 (take i ds)) + 1
      longer = ap length more ∙ length-append (late_records t 1 (take i ds)) (r ∷ [])

      -- one that is late has its place
      pub told_room : told < length free
      told_room =
          let grows = late_grows t ds (i + 1) (length ds) (omega arith) in
          let all = ap (λ zs. length (late_records t 1 zs)) (take_all (length ds) ds (omega arith)) in
          let one = longer in
          let counted = s.counted in
          omega arith

      -- and its record
      pub told_more : told < length now_free → Told t ds free (set now_free told r) (told + 1) (i + 1)
      told_more fits = record {
        counted = let one = longer in let counted = s.counted in omega arith;
        written = take_more_set now_free told r fits ∙ ap (λ rs. rs ++ r ∷ []) s.written ∙ sym more;
        behind =
            drop-set-lt (told + 1) now_free told r (omega arith)
            ∙ sym (drop-drop 1 told now_free)
            ∙ ap (drop 1) s.behind
            ∙ drop-drop 1 told free;
      }

-- ---- a tape of which the free places were written to

module _ (xs free : List TapeRecord) (count r : ℕ) (h : count ≤ length xs) (same : length free ≡ length xs - count) (fits : r ≤ length free) where
  pub written_front : take (count + r) (put_mid count (length xs - count) xs free) ≡ take count xs ++ take r free
  written_front = same_lists _ _ (search (rules, places)) (λ i d l. grind (arith, places))

  pub written_behind : drop r free ≡ drop r (take (length xs - count) (drop count xs)) → drop (count + r) (put_mid count (length xs - count) xs free) ≡ drop (count + r) xs
  written_behind e =
      same_lists _ _ (search (rules, places)) (λ i d l. let k = ap (λ zs. get_or zs i d) e in grind (arith, places, k))
