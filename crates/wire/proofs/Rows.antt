-- Laws of journal rows.
use Rattle.std.proofs.Common.{◌≡◌, ℕ, zero, suc, ◌+◌, ◌-◌, ◌<◌, ◌≤◌, Bool, true, false, not, eqb, List, [], ◌∷◌, ◌++◌, length, take, drop, replicate, sym, refl, ap, ◌∙◌, inl, inr, append_assoc, arith, length-append, length-drop, length-take, eq-eqb}
use Rattle.std.proofs.lemmas.Bool.{and_from}
use lib.ListN.{length-replicate}
use borrow.Rule.Slice.PartMut.{put_mid}
use Rattle.bank.specs.Book.{pick}
use Rattle.bank.specs.Calls.{Call as Meant}
use Rattle.bank.specs.Calls.{opens, rated, move, take_back, day_ends, balance, statement, sums, taken_so_far, garbled, turned}
use Rattle.bank.specs.Promise.{asks}
use Rattle.device.specs.Rows.{bytes_of, number_of, numbers, row, row_of, thing_in, used_by, width, with_bytes}
use Rattle.device.proofs.Parts.{part_written, with_before, with_length, with_more, with_rest, with_there}
use Rattle.device.proofs.Rows.{length_bytes, number_back, row_length, row_of_back, row_of_length, zeros}
use Rattle.model.specs.JournalBlock.{call_from, call_kind, call_numbers, call_row, call_widths, stored}
use Rattle.model.proofs.JournalBlock.{call_back, call_fits, storable}
use Rattle.bank.proofs.Limited.{never}
use Rattle.wire.specs.Format.{call_number, call_of_lem}
use Rattle.wire.specs.JournalRow.{Apart, Empty, HasRow, Remembers, kind_at}
use Rattle.std.proofs.lemmas.List.{drop-drop, drop-replicate}
use Rattle.wire.proofs.Numbers.{get_or_zeros, number_within, numbers_within}
use Rattle.wire.proofs.Calls.{padded, same_call}

-- the row by a kind, widths and numbers
abbrev laid : ℕ → List ℕ → List ℕ → List ℕ
laid kind ks ns = bytes_of 2 kind ++ (row ks ns ++ replicate (18 - width ks) 0)

-- a call that has a row is one of the first five, and its row is laid by the byte that it begins with
rowed : (c : Meant) → stored c ≡ true → (call_number c < 5) × (call_kind c ≡ call_number c + 1) × (row_of call_row c ≡ laid (call_number c + 1) (call_widths (call_number c + 1)) (padded c))
unfolding asks row_of row call_kind call_numbers call_widths
rowed (opens m r) h = (omega arith, refl, refl)
rowed (rated a r) h = (omega arith, refl, refl)
rowed (move v a b x) h = (omega arith, refl, refl)
rowed (take_back k) h = (omega arith, refl, refl)
rowed day_ends h = (omega arith, refl, refl)
rowed (balance a d k) h = never h
rowed (statement a d e) h = never h
rowed sums h = never h
rowed taken_so_far h = never h
rowed (garbled k) h = never h

pub early : (c : Meant) → stored c ≡ true → call_number c < 5
early c h = (rowed c h).0

pub row_is : (c : Meant) (number : ℕ) (ks ns : List ℕ) → stored c ≡ true → number ≡ call_number c → ks ≡ call_widths (number + 1) → ns ≡ padded c → laid (number + 1) ks ns ≡ row_of call_row c
row_is c number ks ns h n k f = let r = (rowed c h).2 in cc

-- the kind, the numbers and zeros, one behind another
pub row_written : (block one two filled : List ℕ) (at end kind : ℕ) (ks ns : List ℕ) → at + 20 ≤ length block → width ks ≤ 18 →
    one ≡ with_bytes block at (bytes_of 2 kind) → two ≡ with_bytes one (at + 2) (row ks ns) → end ≡ at + 2 + width ks →
    filled ≡ replicate (length (take (at + 20 - end) (drop end two))) 0 → put_mid end (at + 20 - end) two filled ≡ with_bytes block at (laid kind ks ns)
row_written block one two filled at end kind ks ns room few p q e f =
    let zs : List ℕ = replicate (18 - width ks) 0 in
    let k2 = length_bytes 2 kind in
    let kr = row_length ks ns in
    let kz : length zs ≡ 18 - width ks = length-replicate {A = ℕ} (18 - width ks) 0 in
    let l1 : length one ≡ length block = ap length p ∙ with_length at (bytes_of 2 kind) block (omega arith) in
    let l2 : length two ≡ length one = ap length q ∙ with_length (at + 2) (row ks ns) one (omega arith) in
    let left : length (take (at + 20 - end) (drop end two)) ≡ 18 - width ks = simp (length-take, length-drop) (omega arith) in
    let both : two ≡ with_bytes block at (bytes_of 2 kind ++ row ks ns) =
    q ∙ ap (λ x. with_bytes x (at + 2) (row ks ns)) p ∙ with_more block (bytes_of 2 kind) (row ks ns) at (at + 2) (omega arith) (omega arith) in
    part_written end (at + 20) (18 - width ks) filled zs two (omega arith) kz (f ∙ ap (λ k. replicate k 0) left)
    ∙ ap (λ x. with_bytes x end zs) both
    ∙ with_more block (bytes_of 2 kind ++ row ks ns) zs at end (simp length-append (omega arith)) (omega arith)
    ∙ ap (with_bytes block at) (append_assoc (bytes_of 2 kind) (row ks ns) zs)

-- the call of a row by the table of all calls
of_kind : (k : ℕ) (xs : List ℕ) → 1 ≤ k → k ≤ 5 → call_of_lem (k - 1) xs ≡ call_from k xs
unfolding call_from
of_kind zero xs h l = absurd (omega arith)
of_kind (suc zero) xs h l = refl
of_kind (suc (suc zero)) xs h l = refl
of_kind (suc (suc (suc zero))) xs h l = refl
of_kind (suc (suc (suc (suc zero)))) xs h l = refl
of_kind (suc (suc (suc (suc (suc zero))))) xs h l = refl
of_kind (suc (suc (suc (suc (suc (suc k)))))) xs h l = absurd (omega arith)

pub row_read : (block ks ns : List ℕ) (at kind m : ℕ) → kind ≡ number_of 2 (drop at block) → 1 ≤ kind → kind ≤ 5 → ks ≡ call_widths kind →
    ns ≡ numbers ks (drop (at + 2) block) ++ replicate m 0 → call_of_lem (kind - 1) ns ≡ thing_in call_row (drop at block)
unfolding thing_in
row_read block ks ns at kind m e h l w n =
    ap (call_of_lem (kind - 1)) n
    ∙ same_call (kind - 1) (numbers ks (drop (at + 2) block) ++ replicate m 0) (numbers ks (drop (at + 2) block)) (get_or_zeros (numbers ks (drop (at + 2) block)) m)
    ∙ of_kind kind (numbers ks (drop (at + 2) block)) h l
    ∙ ap (λ x. call_from kind (numbers x (drop (at + 2) block))) w
    ∙ ap (λ x. call_from kind (numbers (call_widths kind) x)) (sym (drop-drop 2 at block))
    ∙ ap (λ k. call_from k (numbers (call_widths k) (drop 2 (drop at block)))) e

-- a kind that there is
kind_there : (c : Meant) → stored c ≡ true → (1 ≤ call_kind c) × (call_kind c ≤ 5)
kind_there c h = let r = rowed c h in (omega (arith, r.1), omega (arith, r.0, r.1))

kind_first : (c : Meant) (rest : List ℕ) → stored c ≡ true → number_of 2 (row_of call_row c ++ rest) ≡ call_kind c
unfolding row_of
kind_first c rest h =
    let body : List ℕ = row (call_widths (call_kind c)) (call_numbers c) ++ replicate (20 - used_by call_row c) 0 in
    ap (number_of 2) (append_assoc (bytes_of 2 (call_kind c)) body rest) ∙ number_back 2 (call_kind c) (body ++ rest) (omega (arith, (kind_there c h).1))

pub remembers : Remembers
remembers bs at c room h =
    let rest : List ℕ = drop (at + length (row_of call_row c)) bs in
    let there : drop at (with_bytes bs at (row_of call_row c)) ≡ row_of call_row c ++ rest = with_there at (row_of call_row c) bs (omega (arith, row_of_length call_row c (call_fits c h))) in
    let kind : kind_at (with_bytes bs at (row_of call_row c)) at ≡ call_kind c = ap (number_of 2) there ∙ kind_first c rest h in
    let k = kind_there c h in
    (ap (thing_in call_row) there ∙ row_of_back call_row c rest (call_fits c h) (call_back c h), omega arith, omega arith)

-- a row is its 20 bytes
pick_few : (b : Bool) (xs ys : List ℕ) → width xs ≤ 18 → width ys ≤ 18 → width (pick b xs ys) ≤ 18
pick_few true xs ys h l = h
pick_few false xs ys h l = l

widths_few : (k : ℕ) → width (call_widths k) ≤ 18
unfolding call_widths
widths_few k =
    pick_few (eqb k 1) (8 ∷ (2 ∷ [])) _ (omega arith)
    (pick_few (eqb k 2) (2 ∷ (2 ∷ [])) _ (omega arith) (pick_few (eqb k 3) (2 ∷ (2 ∷ (2 ∷ (8 ∷ [])))) _ (omega arith) (pick_few (eqb k 4) (4 ∷ []) [] (omega arith) (omega arith))))

thing_within : (bs : List ℕ) → thing_in call_row (take 20 bs) ≡ thing_in call_row bs
unfolding thing_in
thing_within bs =
    ap (λ k. call_from k (numbers (call_widths k) (drop 2 (take 20 bs)))) (number_within 2 20 bs (omega arith))
    ∙ ap (call_from (number_of 2 bs)) (numbers_within (call_widths (number_of 2 bs)) bs 2 20 (omega (arith, widths_few (number_of 2 bs))))

pub apart : Apart
apart bs at i c room h where-else =
    let ys : List ℕ = row_of call_row c in
    let long : length ys ≡ 20 = row_of_length call_row c (call_fits c h) in
    let same : take 20 (drop i (with_bytes bs at ys)) ≡ take 20 (drop i bs) =
    elim where-else [ inl b ↦ with_before at ys bs (omega arith) i 20 b | inr b ↦ ap (take 20) (with_rest at ys bs (omega arith) i (omega arith)) ] in (
      same,
      sym (number_within 2 20 (drop i (with_bytes bs at ys)) (omega arith)) ∙ ap (number_of 2) same ∙ number_within 2 20 (drop i bs) (omega arith),
      sym (thing_within (drop i (with_bytes bs at ys))) ∙ ap (thing_in call_row) same ∙ thing_within (drop i bs),
    )

pub empty : Empty
empty n at = ap (number_of 2) (drop-replicate {X = ℕ} at n 0) ∙ zeros 2 (n - at)

pub has_row : HasRow
has_row l n c a t q = storable l a n c (and_from (not (asks c)) (eqb (turned l n c) 0) (ap not q) (eq-eqb (turned l n c) 0 t))
