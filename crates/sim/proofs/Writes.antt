-- Writes that are kept one behind the other, and what is left of them.
use Rattle.std.proofs.Common.{◌≡◌, ℕ, zero, suc, ◌+◌, ◌*◌, ◌<◌, ◌≤◌, List, [], ◌∷◌, ◌++◌, length, take, drop, set, sym, refl, ap, ◌∙◌, arith}
use Rattle.std.proofs.lemmas.List.{length-take-le, take-take, drop-take, drop-drop, take_more_set}
use Rattle.device.specs.Device.{Device, put}
use Rattle.device.specs.Plan.{Write, put_all}
use Rattle.blocks.specs.Blocks.{block, put_block}
use Rattle.device.proofs.Parts.{with_front, with_same}
use Rattle.sim.specs.Cut.{chosen, blocks_of, writes_in}

-- one write more behind the others
pub writes_push : (ks : List ℕ) (k : ℕ) (bytes : List ℕ) → writes_in (ks ++ (k ∷ [])) bytes ≡ writes_in ks bytes ++ (record { block = k; bytes = block (length ks) bytes } ∷ [])
writes_push [] k bytes = refl
writes_push (j ∷ ks) k bytes = let n : 512 + 512 * length ks ≡ 512 * length (j ∷ ks) = omega arith in rw (writes_push ks k (drop 512 bytes), drop-drop (512 * length ks) 512 bytes, n) refl

-- the writes are those of their own bytes alone
pub writes_same : (ks bytes more : List ℕ) → take (512 * length ks) bytes ≡ take (512 * length ks) more → writes_in ks bytes ≡ writes_in ks more
writes_same [] bytes more e = refl
writes_same (k ∷ ks) bytes more e =
    let n : 512 * length (k ∷ ks) ≡ 512 + 512 * length ks = omega arith in
    let f : take (512 + 512 * length ks) bytes ≡ take (512 + 512 * length ks) more = rw n at e in
    let p : take 512 bytes ≡ take 512 more = sym (take-take 512 _ bytes (omega arith)) ∙ ap (take 512) f ∙ take-take 512 _ more (omega arith) in
    let q : take (512 * length ks) (drop 512 bytes) ≡ take (512 * length ks) (drop 512 more) = sym (drop-take 512 _ bytes) ∙ ap (drop 512) f ∙ drop-take 512 _ more in
    rw (p, writes_same ks (drop 512 bytes) (drop 512 more) q) refl

pub blocks_writes : (ks bytes : List ℕ) → blocks_of (writes_in ks bytes) ≡ ks
unfolding blocks_of
blocks_writes [] bytes = refl
blocks_writes (k ∷ ks) bytes = ap (λ r. k ∷ r) (blocks_writes ks (drop 512 bytes))

pub chosen_none : (n : ℕ) (old : List ℕ) → chosen n [] old ≡ old
unfolding chosen
chosen_none zero old = refl
chosen_none (suc n) old = refl

pub put_all_push : (d : Device) (ws : List Write) (w : Write) → put_all d (ws ++ (w ∷ [])) ≡ put (put_all d ws) w.block w.bytes
unfolding put_all
put_all_push d [] w = refl
put_all_push d (x ∷ ws) w = put_all_push (put d x.block x.bytes) ws w

-- a write is kept behind the others
pub kept_write : (places blocks : List ℕ) (count k : ℕ) (bs : List ℕ) → count < length places → 512 * count + 512 ≤ length blocks → length bs ≡ 512 →
    writes_in (take (count + 1) (set places count k)) (put_block count bs blocks) ≡ writes_in (take count places) blocks ++ (record { block = k; bytes = bs } ∷ [])
kept_write places blocks count k bs numbered there whole =
    let n : length (take count places) ≡ count = length-take-le count places (omega arith) in
    let same : block count (put_block count bs blocks) ≡ bs = with_same (512 * count) bs blocks (omega arith) 512 whole in
    let front : take (512 * length (take count places)) (put_block count bs blocks) ≡ take (512 * length (take count places)) blocks =
    with_front (512 * count) bs blocks (omega arith) (512 * length (take count places)) (omega arith) in
    rw (take_more_set places count k numbered, writes_push (take count places) k (put_block count bs blocks), writes_same (take count places) (put_block count bs blocks) blocks front, n, same) refl
