-- The end of the journal, after one call more.
use Rattle.std.proofs.Common.{◌≡◌, ℕ, suc, ◌+◌, ◌%◌, ◌<◌, true, eqb, List, [], ◌∷◌, ◌++◌, length, sym, refl, ap, ◌∙◌, arith, length-append}
use Rattle.std.proofs.lemmas.Bool.Decides.{nat_tests}
use Rattle.std.proofs.lemmas.Grind.{common_steps}
use Rattle.std.proofs.lemmas.List.{take_all}
use Rattle.device.specs.Book.{every}
use Rattle.device.specs.Device.{pick}
use Rattle.device.proofs.Chunks.{every_snoc}
use Rattle.device.proofs.Resident.{last_tail}
use Rattle.bank.specs.Calls.{Call}
use Rattle.model.specs.JournalBlock.{stored, calls_in}
use Rattle.model.proofs.JournalBlock.{journal_block_back, journal_block_more}
use Rattle.columns.specs.Sizes.{limits_of}
use Rattle.journal.specs.Blocks.{block_with, tail_in, with_row}
use Rattle.journal.specs.declared.header.Label.{Label}
use Rattle.journal.specs.declared.journal.Journal.{Journal}
use Rattle.journal.specs.Tail.{tail, Alike, Appended, Stands}

-- what a journal keeps of the bytes of its block
pub record Kept (l : Label) (count : ℕ) (bs : List ℕ) : Type 0 where
  pub bytes : 0 < count % 24 → bs ≡ block_with l (tail_in l count bs)
  pub long : length (tail_in l count bs) ≡ count % 24
  pub rows : every stored (tail_in l count bs) ≡ true

module _ (j : Journal) (narrow : j.label.format < 65536) (early : j.label.epoch < 4294967296) (c : Call) (h : stored c ≡ true) where
  abbrev more : List Call
  more = tail j ++ (c ∷ [])

  -- the block that the row is put into
  abbrev before : List ℕ
  before = pick (eqb (j.count % 24) 0) (block_with j.label []) j.block.now

  before_is : before ≡ block_with j.label (tail j)
  unfolding tail_in
  before_is = grind (arith, nat_tests)

  more_rows : every stored more ≡ true
  more_rows = every_snoc stored (tail j) c j.rows h

  read_back : calls_in j.label.format (limits_of j.label.limits) (block_with j.label more) ≡ more
  read_back = journal_block_back j.label.format narrow (limits_of j.label.limits) j.lawful j.label.epoch early more (simp length-append (omega (arith, j.long))) more_rows

  -- a row put into it
  pub row_put : (n : ℕ) (bs : List ℕ) → n ≡ j.count % 24 → bs ≡ block_with j.label (tail j) → with_row bs n c ≡ block_with j.label more
  row_put n bs e p =
      let l : n ≡ length (tail j) = e ∙ sym j.long in
      let m : length (tail j) + 1 ≡ suc (length (tail j)) = omega arith in
      rw (p, l, m) (sym (journal_block_more j.label.format narrow (limits_of j.label.limits) j.lawful j.label.epoch early (tail j) c (omega (arith, j.long)) j.rows h))

  pub row_put_before : with_row before (j.count % 24) c ≡ block_with j.label more
  row_put_before = row_put (j.count % 24) before refl before_is

  -- the block with it
  module _ (bs : List ℕ) (p : bs ≡ block_with j.label more) where
    tail_is : tail_in j.label (j.count + 1) bs ≡ pick (eqb (suc (length (tail j))) 24) [] more
    unfolding tail_in
    tail_is = rw (p, read_back) (let a = j.long in grind (arith, nat_tests, common_steps, take_all))

    pub kept : Kept j.label (j.count + 1) bs
    unfolding every
    kept =
        let a = j.long in
        let b = more_rows in
        record { bytes = λ n. rw tail_is (grind (arith, nat_tests, p)); long = rw tail_is (grind (arith, nat_tests, common_steps)); rows = rw tail_is (grind (arith, nat_tests)) }

-- so a journal with that block has one call more
pub appended : (j k : Journal) (c : Call) → j.label.format < 65536 → j.label.epoch < 4294967296 → stored c ≡ true → Alike j k → k.count ≡ j.count + 1 →
    k.block.now ≡ block_with j.label (tail j ++ (c ∷ [])) → Appended j k c
appended j k c narrow early h alike count bytes =
    record { alike = alike; count = count; bytes = bytes; tail = rw (alike.label, count) (tail_is j narrow early c h k.block.now bytes) }

-- the calls so far, and this one
pub stands_more : (j k : Journal) (c : Call) (s : List Call) → Appended j k c → Stands j s → Stands k (s ++ (c ∷ []))
stands_more j k c s a at =
    record {
      count = simp length-append (omega (arith, a.count, at.count));
      tail = a.tail ∙ ap (λ (t : List Call). pick (eqb (suc (length t)) 24) [] (t ++ (c ∷ []))) at.tail ∙ last_tail 24 (omega arith) s c;
    }
