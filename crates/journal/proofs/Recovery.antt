-- Recovery of a device that reads as calls, and room in its journal.
use Rattle.std.proofs.Common.{◌≡◌, ℕ, zero, suc, ◌+◌, ◌-◌, ◌*◌, ◌<◌, ◌≤◌, true, false, ltb, ltb-true, List, [], ◌∷◌, ◌++◌, length, take, drop, replicate, sym, refl, ap, ◌∙◌, subst, inl, inr, append_assoc, append-nil, arith, length-append, length-drop, length-take}
use Rattle.std.proofs.lemmas.List.{drop-drop, drop_at, nil_from_length}
use Rattle.std.proofs.lemmas.Bool.{and_parts, cases_Bool, cases_eq}
use Rattle.std.proofs.lemmas.Bool.Decides.{nat_tests}
use Rattle.wire.proofs.Rows.{remembers}
use Rattle.device.specs.Device.{Device}
use Rattle.device.specs.Book.{every}
use Rattle.device.specs.Rows.{number_of, bytes_of, row_of, rows, rows_at, rows_in, block_of, row, used_by, with_bytes}
use Rattle.device.specs.Journal.{chunk, takes, noted, logged, HoldsBlock, HoldsJournal}
use Rattle.device.specs.Resident.{how_many}
use Rattle.device.proofs.Chunks.{every_take, every_drop, gathered_each}
use Rattle.device.proofs.Journal.{Sound, room_left, sound_log, found}
use Rattle.device.proofs.Resident.{how_many_is}
use Rattle.device.proofs.Rows.{behind, number_back, row_of_length, rows_in_length}
use Rattle.bank.specs.Calls.{Call, Limits}
use Rattle.bank.specs.Promise.{asks, room, allowed}
use Rattle.model.specs.Core.{book}
use Rattle.model.specs.First.{first_call, first_program, size, not_yet, journal_format, FirstReading}
use Rattle.bank.specs.Count.{changes}
use Rattle.model.specs.JournalBlock.{Head, head_row, head_for, head_in, headed, call_row, call_kind, stored, journal_block, calls_in}
use Rattle.model.proofs.First.{first_grows, journal_reads_back}
use Rattle.model.proofs.JournalBlock.{call_fits, journal_block_head, journal_block_headed}
use Rattle.wire.specs.JournalRow.{kind_at}
use Rattle.journal.specs.Recovery.{rows_of, later, accepts, TakenAfter, journal_in, FirstAccepted, FirstStarts, FirstHasRoom}
use Rattle.journal.specs.Tail.{tail, Stands}
use Rattle.journal.specs.declared.journal.Journal.{Journal}

-- the row of a call begins with its kind
row_kind : (c : Call) (rest : List ℕ) → stored c ≡ true → number_of 2 (row_of call_row c ++ rest) ≡ call_kind c
unfolding row_of
row_kind c rest h =
    let tail : List ℕ = row (call_row.widths (call_kind c)) (call_row.to c) ++ replicate (20 - used_by call_row c) 0 in
    ap (number_of 2) (append_assoc (bytes_of 2 (call_kind c)) tail rest)
    ∙ number_back 2 (call_kind c) (tail ++ rest) (ltb-true (call_kind c) 65536 (and_parts (ltb (call_kind c) 65536) _ (call_fits c h)).0)

-- a call that is stored has a kind that there is
kind_there : (c : Call) → stored c ≡ true → (1 ≤ call_kind c) × (call_kind c ≤ 5)
kind_there c h =
    let xs : List ℕ = row_of call_row c in
    let e : with_bytes (xs ++ []) 0 xs ≡ xs ++ [] = ap (λ (r : List ℕ). xs ++ r) (drop_at xs [] (0 + length xs) (omega arith)) in
    let r = remembers (xs ++ []) 0 c (omega (arith, length-append xs [], row_of_length call_row c (call_fits c h))) h in
    (rw (e, row_kind c [] h) at r.1, rw (e, row_kind c [] h) at r.2)

-- each row of some calls has its kind
rows_kind : (cs : List Call) (i : ℕ) (rest : List ℕ) → every stored cs ≡ true → i < length cs →
    (1 ≤ number_of 2 (drop (20 * i) (rows call_row cs ++ rest))) × (number_of 2 (drop (20 * i) (rows call_row cs ++ rest)) ≤ 5)
unfolding rows every
rows_kind [] i rest h l = absurd (omega arith)
rows_kind (c ∷ cs) zero rest h l =
    let q = and_parts (stored c) (every stored cs) h in
    rw (append_assoc, row_kind c (rows call_row cs ++ rest) q.0) (kind_there c q.0)
rows_kind (c ∷ cs) (suc i) rest h l =
    let q = and_parts (stored c) (every stored cs) h in
    let n : 20 * suc i ≡ 20 + 20 * i = omega arith in
    rw (n, append_assoc, ← drop-drop (20 * i) 20, behind (row_of call_row c) (rows call_row cs ++ rest) 20 (row_of_length call_row c (call_fits c q.0))) (rows_kind cs i rest q.1 (omega arith))

-- what stands at the end of a device's calls has what the program is started with
pub first_starts : (l : Limits) → FirstStarts l
first_starts l d t count bytes n e = (n, e)

-- so a journal that stands there
pub first_journal_starts : (l : Limits) (d : Device) (j : Journal) → Stands j (journal_in l d) → (j.count ≡ ((first_program l).start d).count) × (tail j ≡ ((first_program l).start d).tail)
first_journal_starts l d j h = first_starts l d j.label j.count j.block.now h.count h.tail

-- calls that were taken are taken again
module _ (l : Limits) where
  taken_more : (s cs : List Call) (c : Call) → TakenAfter l s cs → takes (book l) first_call (changes l) (s ++ cs) c ≡ true → TakenAfter l s (cs ++ (c ∷ []))
  unfolding TakenAfter
  taken_more s [] c h t = (rw append-nil at t, tt)
  taken_more s (x ∷ cs) c h t = (h.0, taken_more (s ++ (x ∷ [])) cs c h.1 (rw (← append_assoc s (x ∷ []) cs) at t))

  taken_noted : (s : List Call) (c : Call) → TakenAfter l [] s → TakenAfter l [] (noted (book l) first_call (changes l) s c)
  unfolding noted
  taken_noted s c h = elim (cases_Bool (takes (book l) first_call (changes l) s c)) [ inl t ↦ rw t (taken_more [] s c h t) | inr t ↦ rw t h ]

  taken_logged : (s ts : List Call) → TakenAfter l [] s → TakenAfter l [] (logged (book l) first_call (changes l) s ts)
  unfolding logged
  taken_logged s [] h = h
  taken_logged s (c ∷ ts) h = taken_logged (noted (book l) first_call (changes l) s c) ts (taken_noted s c h)

module _ (l : Limits) (a : allowed l ≡ true) where
  sound : (ts : List Call) → Sound (book l) first_call stored asks 24 (omega arith) (room l) (changes l) size (first_grows l a) (logged (book l) first_call (changes l) [] ts)
  sound ts = sound_log (book l) first_call stored asks 24 (omega arith) (room l) (changes l) size (first_grows l a) (journal_format l) (journal_reads_back l a) not_yet ts

  pub first_has_room : FirstHasRoom l
  unfolding takes
  first_has_room ts c h =
      let n = room_left (book l) first_call stored asks 24 (omega arith) (room l) (changes l) size (first_grows l a) (logged (book l) first_call (changes l) [] ts) c (sound ts) h in
      omega arith

  module _ (d : Device) (ts : List Call) (reads : FirstReading l d ts) where
    abbrev s : List Call
    s = logged (book l) first_call (changes l) [] ts

    holds : (k : ℕ) → k < room l → HoldsBlock (book l) first_call (changes l) (journal_format l) not_yet 24 (room l) d s k
    unfolding HoldsJournal
    holds k m = reads.1 k m

    abbrev calls_at : ℕ → List Call
    calls_at k = calls_in 1 l (d k)

    -- the calls of the blocks before
    before : (k : ℕ) → k ≤ room l → how_many calls_at k ≡ length (take (k * 24) s)
    before k m = sym (how_many_is calls_at k) ∙ ap length (gathered_each 24 (omega arith) calls_at s k (λ i h. (holds i (omega arith)).reads))

    few : (k : ℕ) → length (chunk 24 k s) ≤ 24
    few k = simp length-take (omega arith)

    kept : (k : ℕ) → every stored (chunk 24 k s) ≡ true
    kept k = every_take stored 24 (drop (k * 24) s) (every_drop stored (k * 24) s (sound ts).oks)

    -- a block that holds calls
    module _ (k : ℕ) (m : k < room l) (some : 0 < length (chunk 24 k s)) where
      bytes : d k ≡ journal_block 1 l 0 (chunk 24 k s)
      bytes = (holds k m).bytes some

      full_before : how_many calls_at k ≡ 24 * k
      full_before = omega (arith, before k (omega arith), length-take {A = Call}, length-drop {A = Call})

      is_headed : headed 1 l (d k) ≡ true
      is_headed = ap (headed 1 l) bytes ∙ journal_block_headed 1 (omega arith) l a 0 (omega arith) (chunk 24 k s) (few k)

      is_head : head_in (d k) ≡ head_for 1 l 0 (length (chunk 24 k s))
      is_head = ap head_in bytes ∙ journal_block_head 1 (omega arith) l a 0 (omega arith) (chunk 24 k s) (few k)

      some_rows : rows_of 1 l 0 (d k) ≡ length (chunk 24 k s)
      some_rows = rw (is_headed, is_head)

      some_accepted : length (d k) ≡ 512 → accepts 1 l 0 k (how_many calls_at k) (d k) ≡ true
      some_accepted w =
          let a = is_headed in
          let b = is_head in
          let o = (holds k m).mine in
          let f = full_before in
          let n = few k in
          grind (arith, nat_tests)

      some_kinds : (i : ℕ) → i < length (chunk 24 k s) → (1 ≤ kind_at (d k) (32 + 20 * i)) × (kind_at (d k) (32 + 20 * i) ≤ 5)
      unfolding journal_block block_of
      some_kinds i h =
          let cs : List Call = chunk 24 k s in
          let head : List ℕ = row_of head_row (head_for 1 l 0 (length cs)) in
          let zeros : List ℕ = replicate (512 - (length head + 20 * length cs)) 0 in
          let e : drop (32 + 20 * i) (d k) ≡ drop (20 * i) (rows call_row cs ++ zeros) =
          sym (drop-drop (20 * i) 32 (d k)) ∙ ap (λ bs. drop (20 * i) (drop 32 bs)) bytes ∙ ap (drop (20 * i)) (behind head (rows call_row cs ++ zeros) 32 (head_size (length cs))) in
          rw e (rows_kind cs i zeros (kept k) h)
        where
          head_size : (n : ℕ) → length (row_of head_row (head_for 1 l 0 n)) ≡ 32
          head_size n = (unfold row_of row bytes_of in refl)

    -- a block that holds none
    module _ (k : ℕ) (m : k < room l) (none : length (chunk 24 k s) ≡ 0) where
      no_calls : length (calls_at k) ≡ 0
      no_calls = ap length (holds k m).reads ∙ none

      no_rows : (rows_of 1 l 0 (d k) ≡ 0) × (later 1 l 0 (d k) ≡ false)
      unfolding calls_in
      no_rows =
          let n = no_calls in
          let z = rows_in_length call_row 32 (head_in (d k)).rows (d k) in
          grind (arith, nat_tests)

      none_accepted : length (d k) ≡ 512 → accepts 1 l 0 k (how_many calls_at k) (d k) ≡ true
      none_accepted w =
          let q = no_rows in
          let o = (holds k m).mine in
          grind (arith, nat_tests)

    -- either way
    by_calls : (k : ℕ) (P : Type 0) → (0 < length (chunk 24 k s) → P) → (length (chunk 24 k s) ≡ 0 → P) → P
    by_calls k P x y = elim (cases_eq (length (chunk 24 k s)) 0) [ inl e ↦ y e | inr e ↦ x (omega (arith, e)) ]

    rows_are : (k : ℕ) → k < room l → rows_of 1 l 0 (d k) ≡ length (calls_at k)
    rows_are k m =
        by_calls k (rows_of 1 l 0 (d k) ≡ length (calls_at k)) (λ x. some_rows k m x ∙ sym (ap length (holds k m).reads))
        (λ x. (no_rows k m x).0 ∙ sym (no_calls k m x))

    calls_are : (k : ℕ) → k < room l → rows_in call_row 32 (rows_of 1 l 0 (d k)) (d k) ≡ calls_at k
    unfolding calls_in
    calls_are k m =
        by_calls k (rows_in call_row 32 (rows_of 1 l 0 (d k)) (d k) ≡ calls_at k)
        (λ x. let t = is_headed k m x in ap (λ n. rows_in call_row 32 n (d k)) (some_rows k m x ∙ sym (ap (λ (h : Head). h.rows) (is_head k m x))) ∙ sym (rw t))
        (λ x. ap (λ n. rows_in call_row 32 n (d k)) (no_rows k m x).0 ∙ (unfold rows_in rows_at in sym (nil_from_length (calls_at k) (no_calls k m x))))

    pub first_accepted : FirstAccepted l d ts
    first_accepted =
        record {
          accepted = λ k m w. by_calls k (accepts 1 l 0 k (how_many calls_at k) (d k) ≡ true) (λ x. some_accepted k m x w) (λ x. none_accepted k m x w);
          rows = rows_are;
          calls = calls_are;
          kinds = λ k i m h.
              by_calls k ((1 ≤ kind_at (d k) (32 + 20 * i)) × (kind_at (d k) (32 + 20 * i) ≤ 5)) (λ x. some_kinds k m x i (omega (arith, some_rows k m x)))
              (λ x. absurd (omega (arith, (no_rows k m x).0)));
          journal = is_journal;
          again = subst (TakenAfter l []) (sym is_journal) (taken_logged l [] ts (unfold TakenAfter in tt));
        }
      where
        is_journal : journal_in l d ≡ s
        is_journal = found (book l) first_call stored asks 24 (omega arith) (room l) (changes l) size (first_grows l a) (journal_format l) (journal_reads_back l a) not_yet d ts reads
