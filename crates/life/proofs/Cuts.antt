-- What is left of a device, and was heard, after some acts and a cut.
use Rattle.std.proofs.Common.{◌≡◌, ℕ, zero, suc, ◌+◌, ◌*◌, ◌≤◌, true, ◌⊎◌, None, Ok, List, [], ◌∷◌, ◌++◌, length, take, drop, sym, refl, ap, ◌∙◌, subst, append_assoc, append-nil, arith, Bor}
use Rattle.device.specs.Device.{Device, write, flush, say, said, acts}
use Rattle.bank.specs.Calls.{Call, Answer, Limits, answers, ran, new_bank}
use Rattle.bank.specs.Device.{Act, LeftBy}
use Rattle.bank.specs.Promise.{allowed, all_readable}
use Rattle.bank.specs.Promise.{room as blocks_for}
use Rattle.model.specs.First.{first_program, FirstReading}
use Rattle.model.proofs.First.{first_core_by}
use Rattle.wire.specs.Answered.{written_answer}
use Rattle.blocks.specs.Blocks.{device_of}
use Rattle.device.specs.Resident.{Memory}
use Rattle.bank.specs.Book.{Bank}
use Rattle.sim.specs.Held.{Held, at_rest, dones}
use Rattle.sim.specs.Cut.{cut_by}
use Rattle.sim.specs.Sims.{holds}
use Rattle.life.specs.declared.heard.Heard.{Heard}
use Rattle.sim.specs.declared.Disk.{Disk}
use Rattle.life.specs.declared.heard.Listener.{Listener}
use Rattle.life.specs.Heard.{rows_read, Behind}
use Rattle.life.specs.declared.lent.Lent.{Lent}
use Rattle.life.specs.Life.{World, world, after_act, after_acts, written_answers, lived, Lived, KeepsTheBook, lacks, Ended}

-- what the device holds after some acts
pub held_after : (w : World) (xs : List Act) → (after_acts w xs).held ≡ dones {A = Answer} w.held xs
unfolding after_acts dones
held_after w [] = refl
held_after w (write k bs ∷ xs) = held_after (after_act w (write k bs)) xs
held_after w (flush ∷ xs) = held_after (after_act w flush) xs
held_after w (say a ∷ xs) = held_after (after_act w (say a)) xs

-- and what was heard by then
pub spoken_after : (w : World) (xs : List Act) → (after_acts w xs).spoken ≡ w.spoken ++ written_answers (said xs)
unfolding after_acts said written_answers
spoken_after w [] = sym (append-nil w.spoken)
spoken_after w (write k bs ∷ xs) = spoken_after (after_act w (write k bs)) xs
spoken_after w (flush ∷ xs) = spoken_after (after_act w flush) xs
spoken_after w (say a ∷ xs) = spoken_after (after_act w (say a)) xs ∙ append_assoc w.spoken (written_answer a) (written_answers (said xs))

pub heard_after : (w : World) (xs : List Act) → (after_acts w xs).heard ≡ w.heard + length (said xs)
unfolding after_acts said
heard_after w [] = omega arith
heard_after w (write k bs ∷ xs) = heard_after (after_act w (write k bs)) xs
heard_after w (flush ∷ xs) = heard_after (after_act w flush) xs
heard_after w (say a ∷ xs) = let h = heard_after (after_act w (say a)) xs in omega (arith, h)

-- a device at rest that did the acts of a life, and then lost power
pub lived_and_cut : (l : Limits) (image : List ℕ) (rows : List (Bor (List ℕ))) (budget : ℕ) (row image-after said-before said-after : List ℕ) (d f : Disk) (e g : Listener) (m : Memory Call Bank) →
    m ≡ (first_program l).start (device_of image) → holds d ≡ at_rest (device_of image) → e.said.now ≡ said-before → e.heard ≡ record { answers = 0; bytes = 0 } → said-after ≡ g.said.now →
    world f g ≡ after_acts (world d e) (take budget (acts (first_program l) m (rows_read rows))) →
    ((k : ℕ) → device_of image-after k ≡ cut_by row (holds f) k) →
    ((x : Device) (xs : List Act) → holds f ≡ dones (at_rest x) xs → LeftBy x xs (device_of image-after)) →
    Behind e.said.now e.heard g.said.now g.heard → Lived l image rows budget row said-before image-after said-after g.heard
lived_and_cut l image rows budget row image-after said-before said-after d f e g m start rest same none here run c left behind =
    let xs = lived l image rows budget in
    let all : world f g ≡ after_acts (world d e) xs = run ∙ ap (λ (x : Memory Call Bank). after_acts (world d e) (take budget (acts (first_program l) x (rows_read rows)))) start in
    let held : holds f ≡ dones {A = Answer} (at_rest (device_of image)) xs =
    ap (λ (x : World). x.held) all ∙ held_after (world d e) xs ∙ ap (λ (x : Held). dones {A = Answer} x xs) rest in
    let silent : (world d e).spoken ≡ [] = ap (λ (x : Heard). take x.bytes e.said.now) none in
    record {
      counted = let q = ap (λ (x : World). x.heard) all ∙ heard_after (world d e) xs in let z = ap (λ (x : Heard). x.answers) none in omega (arith, q, z);
      spoken = ap (take g.heard.bytes) here ∙ ap (λ (x : World). x.spoken) all ∙ spoken_after (world d e) xs ∙ ap (λ (x : List ℕ). x ++ written_answers (said xs)) silent;
      behind = ap (drop g.heard.bytes) here ∙ behind.stays ∙ ap (drop g.heard.bytes) same;
      cut = λ k. c k ∙ ap (λ (x : Held). cut_by row x k) held;
      left = left (device_of image) xs held;
    }

-- the answers of a part are the first answers
said_take : (k : ℕ) (xs : List Act) → said (take k xs) ≡ take (length (said (take k xs))) (said xs)
unfolding said
said_take zero xs = refl
said_take (suc k) [] = refl
said_take (suc k) (write j bs ∷ xs) = said_take k xs
said_take (suc k) (flush ∷ xs) = said_take k xs
said_take (suc k) (say a ∷ xs) = ap (λ z. a ∷ z) (said_take k xs)

-- the promise of the first stage, for a life
pub keeps_the_book : (l : Limits) (image : List ℕ) (rows : List (Bor (List ℕ))) (budget : ℕ) (row said-before image-after said-after : List ℕ) (h : Heard) → allowed l ≡ true → all_readable (rows_read rows) ≡ true →
    Lived l image rows budget row said-before image-after said-after h → KeepsTheBook l image rows image-after said-after h
keeps_the_book l image rows budget row said-before image-after said-after h a y v ts f p =
    let cs = rows_read rows in
    let xs = lived l image rows budget in
    let all = acts (first_program l) ((first_program l).start (device_of image)) cs in
    let o = first_core_by.first l a in
    let right : said all ≡ answers l (ran l new_bank ts) cs = o.right (device_of image) ts cs f y p in
    let n : length (said xs) ≡ h.answers = sym v.counted in
    let kept : FirstReading l (device_of image-after) (ts ++ take (length (said xs)) cs) ⊎ FirstReading l (device_of image-after) (ts ++ take (suc (length (said xs))) cs) =
    o.kept (device_of image) (device_of image-after) ts cs budget f y p v.left in (
      v.spoken ∙ ap written_answers (said_take budget all ∙ ap (take (length (said xs))) right ∙ ap (λ (k : ℕ). take k (answers l (ran l new_bank ts) cs)) n),
      subst (λ (k : ℕ). FirstReading l (device_of image-after) (ts ++ take k cs) ⊎ FirstReading l (device_of image-after) (ts ++ take (suc k) cs)) n kept,
    )

-- a life that was lived to its end
pub ended : (l k : Limits) (lent : Lent) (image : List ℕ) (rows : List (Bor (List ℕ))) (budget : ℕ) (row image-after said-before said-after : List ℕ) (d f : Disk) (e g : Listener) (h : Heard) (m : Memory Call Bank) → k ≡ l →
    (lacks l lent (length said-before) (length rows) ≡ None) × (allowed l ≡ true) → 512 * blocks_for l ≤ length image → all_readable (rows_read rows) ≡ true →
    m ≡ (first_program k).start (device_of image) → holds d ≡ at_rest (device_of image) → e.said.now ≡ said-before → e.heard ≡ record { answers = 0; bytes = 0 } → said-after ≡ g.said.now → h ≡ g.heard →
    world f g ≡ after_acts (world d e) (take budget (acts (first_program k) m (rows_read rows))) →
    ((i : ℕ) → device_of image-after i ≡ cut_by row (holds f) i) →
    ((x : Device) (xs : List Act) → holds f ≡ dones (at_rest x) xs → LeftBy x xs (device_of image-after)) →
    Behind e.said.now e.heard g.said.now g.heard → Ended l lent rows budget row image said-before image-after said-after (Ok h)
ended l k lent image rows budget row image-after said-before said-after d f e g h m same fits long read start rest silent none here is run c left behind =
    let v : Lived l image rows budget row said-before image-after said-after h =
    rw is (subst (λ (x : Limits). Lived x image rows budget row said-before image-after said-after g.heard) same
    (lived_and_cut k image rows budget row image-after said-before said-after d f e g m start rest silent none here run c left behind)) in
    (fits.0, long, v, keeps_the_book l image rows budget row said-before image-after said-after h fits.1 read v)
