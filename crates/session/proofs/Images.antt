-- A device in lent bytes, read block by block.
use Rattle.std.proofs.Common.{◌≡◌, ℕ, zero, suc, ◌<◌, ◌≤◌, Bool, true, false, not, ◌&&◌, eqb, ltb, List, [], ◌∷◌, ◌++◌, length, sym, refl, ap, ◌∙◌, subst, inl, inr, append_assoc, append-nil, add-one, arith}
use Rattle.std.proofs.lemmas.Bool.{and_parts, true≢false, lt-ltb, eqb-false, cases_eq}
use Rattle.device.specs.Device.{pick, Device}
use Rattle.device.specs.Journal.{gather_each, gather}
use Rattle.device.specs.Rows.{rows_at, rows_in}
use Rattle.device.specs.Resident.{how_many}
use Rattle.device.proofs.Resident.{how_many_is}
use Rattle.bank.specs.Calls.{Call, Limits, new_bank}
use Rattle.device.specs.Book.{ran_by}
use Rattle.model.specs.Core.{book}
use Rattle.bank.specs.Promise.{room}
use Rattle.model.specs.First.{first_program}
use Rattle.model.specs.JournalBlock.{call_row, head_in, headed, own, calls_in}
use Rattle.blocks.specs.Blocks.{device_of}
use Rattle.blocks.proofs.Blocks.{device_whole}
use Rattle.ledger.specs.Meaning.{bank, limits}
use Rattle.journal.specs.Recovery.{accepts, rows_of, later, TakenAfter, FirstAccepted}
use Rattle.journal.proofs.Recovery.{first_accepted}
use Rattle.session.specs.declared.opening.Opening.{Opening}
use Rattle.session.specs.Session.{memory, At}
use Rattle.session.specs.Opening.{NewOpening, Advanced, Acceptable, Through, HoldsCalls, rows_for_lem}

-- the calls of a block that is accepted
calls_accepted : (l : Limits) (k n : ℕ) (bs : List ℕ) → accepts 1 l 0 k n bs ≡ true → rows_in call_row 32 (rows_of 1 l 0 bs) bs ≡ calls_in 1 l bs
unfolding calls_in rows_in rows_at
calls_accepted l k n bs a =
    let p = and_parts (eqb (length bs) 512) _ a in
    let q = and_parts (own 1 l bs) _ p.1 in
    let r = and_parts (not (later 1 l 0 bs)) _ q.1 in
    go (headed 1 l bs) (eqb (head_in bs).epoch 0) refl refl r.0
  where
    none : (m : ℕ) → m ≡ 0 → rows_in call_row 32 0 bs ≡ rows_in call_row 32 m bs
    none m e = ap (λ (i : ℕ). rows_in call_row 32 i bs) (sym e)

    no_rows : (m e : ℕ) → (e ≡ 0 → ⊥) → not (ltb 0 m && ltb 0 e) ≡ true → m ≡ 0
    no_rows zero e h t = refl
    no_rows (suc m) e h t = absurd (true≢false (sym t ∙ (rw (lt-ltb 0 (suc m) (omega arith), lt-ltb 0 e (omega (arith, h))) refl)))

    go : (h e : Bool) → headed 1 l bs ≡ h → eqb (head_in bs).epoch 0 ≡ e → not (headed 1 l bs && (ltb 0 (head_in bs).rows && ltb 0 (head_in bs).epoch)) ≡ true →
        rows_in call_row 32 (pick (headed 1 l bs && eqb (head_in bs).epoch 0) (head_in bs).rows 0) bs ≡ pick (headed 1 l bs) (rows_in call_row 32 (head_in bs).rows bs) []
    go true true x y z = rw (x, y) refl
    go true false x y z =
        rw (x, y) (none (head_in bs).rows (no_rows (head_in bs).rows (head_in bs).epoch (eqb-false (head_in bs).epoch 0 y) (subst (λ (b : Bool). not (b && (ltb 0 (head_in bs).rows && ltb 0 (head_in bs).epoch)) ≡ true) x z)))
    go false e x y z = rw x refl

-- nothing read yet, and one block more
pub through_none : (o : Opening) (image : List ℕ) → Through o o image
unfolding gather_each
through_none o image =
    record {
      still_open = refl;
      limits_stay = refl;
      blocks_stay = refl;
      stage_stays = refl;
      within = λ h. h;
      stands = λ e at. subst (λ (k : ℕ). At o.session (gather (calls_in 1 (limits o.session.book.ledger)) (device_of image) k)) (sym e) at;
    }

pub through_more : (o p q : Opening) (image : List ℕ) → Through o p image → p.session.journal.read < p.session.journal.blocks → Advanced p q (device_of image p.session.journal.read) → Through o q image
unfolding gather_each
through_more o p q image t there a =
    let l : Limits = limits o.session.book.ledger in
    let k : ℕ = p.session.journal.read in
    let same : rows_for_lem p (device_of image k) ≡ calls_in 1 l (device_of image k) =
    calls_accepted (limits p.session.book.ledger) k p.session.journal.count (device_of image k) a.accepted ∙ ap (λ (x : Limits). calls_in 1 x (device_of image k)) t.limits_stay in
    record {
      still_open = a.still_open ∙ sym a.was_open ∙ t.still_open;
      limits_stay = a.limits_stay ∙ t.limits_stay;
      blocks_stay = a.blocks_stay ∙ t.blocks_stay;
      stage_stays = a.stage_stays ∙ t.stage_stays;
      within = λ h. let r = a.read_is in let b = a.blocks_stay in omega arith;
      stands = λ e at.
          subst (λ (n : ℕ). At q.session (gather (calls_in 1 l) (device_of image) n)) (sym (a.read_is ∙ add-one k))
          (subst (λ (xs : List Call). At q.session (gather (calls_in 1 l) (device_of image) k ++ xs)) same (a.stands (gather (calls_in 1 l) (device_of image) k) (t.stands e at)));
    }

-- calls taken after others, in parts
taken_parts : (l : Limits) (s xs ys : List Call) → TakenAfter l s (xs ++ ys) → TakenAfter l s xs × TakenAfter l (s ++ xs) ys
unfolding TakenAfter
taken_parts l s [] ys h = (tt, subst (λ (z : List Call). TakenAfter l z ys) (sym (append-nil s)) h)
taken_parts l s (x ∷ xs) ys h =
    let q = taken_parts l (s ++ (x ∷ [])) xs ys h.1 in ((h.0, q.0), subst (λ (z : List Call). TakenAfter l z ys) (append_assoc s (x ∷ []) xs) q.1)

taken_block : (l : Limits) (g : ℕ → List Call) (k n : ℕ) → k < n → TakenAfter l [] (gather_each g n) → TakenAfter l (gather_each g k) (g k)
unfolding gather_each
taken_block l g k zero h t = absurd (omega arith)
taken_block l g k (suc n) h t =
    let q = taken_parts l [] (gather_each g n) (g n) t in
    elim (cases_eq k n) [
      | inl e ↦ subst (λ (i : ℕ). TakenAfter l (gather_each g i) (g i)) (sym e) q.1
      | inr e ↦ taken_block l g k n (omega (arith, e)) q.0
    ]

-- a block of a device that reads as calls is not refused
pub acceptable : (o p : Opening) (image : List ℕ) (ts : List Call) → HoldsCalls o image ts → Through o p image → p.session.journal.read < p.session.journal.blocks →
    Acceptable p (gather (calls_in 1 (limits o.session.book.ledger)) (device_of image) p.session.journal.read) (device_of image p.session.journal.read)
acceptable o p image ts h t there =
    let l : Limits = limits o.session.book.ledger in
    let d : Device = device_of image in
    let k : ℕ = p.session.journal.read in
    let at : At p.session (gather (calls_in 1 l) d k) = t.stands h.new.unread h.new.fresh in
    let few : k < room l = let b = t.blocks_stay ∙ o.session.joined.blocks_are in omega arith in
    let f : FirstAccepted l d ts = first_accepted l o.session.book.allows d ts h.reads in
    let n : p.session.journal.count ≡ how_many (λ i. calls_in 1 l (d i)) k = at.stands.count ∙ how_many_is (λ i. calls_in 1 l (d i)) k in
    let same : limits p.session.book.ledger ≡ l = t.limits_stay in
    let ok : accepts 1 l 0 k p.session.journal.count (d k) ≡ true = ap (λ (m : ℕ). accepts 1 l 0 k m (d k)) n ∙ f.accepted k few (device_whole image k) in
    record {
      open_yet = t.still_open ∙ h.new.open_yet;
      at_base = at;
      there = there;
      accepted = ap (λ (x : Limits). accepts 1 x 0 k p.session.journal.count (d k)) same ∙ ok;
      known_rows = λ i m. f.kinds k i few (subst (λ (x : Limits). i < rows_of 1 x 0 (d k)) same m);
      again =
          subst (λ (x : Limits). TakenAfter x (gather (calls_in 1 l) d k) (rows_in call_row 32 (rows_of 1 x 0 (d k)) (d k))) (sym same)
          (subst (TakenAfter l (gather (calls_in 1 l) d k)) (sym (f.calls k few)) (taken_block l (λ i. calls_in 1 l (d i)) k (room l) few f.again));
    }

-- when all blocks were read the session is the program started on the device
pub started : (o p : Opening) (image : List ℕ) → NewOpening o (limits o.session.book.ledger) → Through o p image → p.session.journal.blocks ≤ p.session.journal.read →
    memory p.session ≡ (first_program (limits o.session.book.ledger)).start (device_of image)
started o p image n t all =
    let l : Limits = limits o.session.book.ledger in
    let b : p.session.journal.blocks ≡ room l = t.blocks_stay ∙ o.session.joined.blocks_are in
    let u = n.unread in
    let w = t.within (omega arith) in
    let r : p.session.journal.read ≡ room l = omega arith in
    let at : At p.session (gather (calls_in 1 l) (device_of image) (room l)) =
    subst (λ (k : ℕ). At p.session (gather (calls_in 1 l) (device_of image) k)) r (t.stands n.unread n.fresh) in
    let x : bank p.session.book.ledger ≡ ran_by (book l) new_bank (gather (calls_in 1 l) (device_of image) (room l)) =
    at.bank_is ∙ ap (λ (k : Limits). ran_by (book k) new_bank (gather (calls_in 1 l) (device_of image) (room l))) t.limits_stay in
    let y = at.stands.count in
    let z = at.stands.tail in
    cc
