-- An answer is said: it is heard behind the others, and there is room for what is left.
use Rattle.std.proofs.Common.{◌≡◌, ℕ, ◌+◌, ◌≤◌, List, ◌∷◌, ◌++◌, length, take, drop, sym, refl, ap, ◌∙◌, append_assoc, arith, length-append}
use Rattle.std.proofs.lemmas.List.{length-take, take_at}
use Rattle.device.specs.Rows.{with_bytes}
use Rattle.device.specs.Device.{say}
use Rattle.wire.specs.Answered.{written_answer}
use Rattle.sim.specs.Held.{done}
use Rattle.session.specs.declared.Session.{Session}
use Rattle.session.specs.Session.{left, answer_of_lem}
use Rattle.sim.specs.declared.Disk.{Disk}
use Rattle.life.specs.declared.heard.Listener.{Listener}
use Rattle.life.specs.Heard.{spoken_in}
use Rattle.life.specs.Life.{world, after_act}

-- bytes that are put behind others stand behind them
pub more_heard : (at : ℕ) (ys xs : List ℕ) → at + length ys ≤ length xs → take (at + length ys) (with_bytes xs at ys) ≡ take at xs ++ ys
more_heard at ys xs room =
    let n : length (take at xs ++ ys) ≡ at + length ys = simp (length-append, length-take) (omega arith) in
    ap (take (at + length ys)) (sym (append_assoc (take at xs) ys (drop (at + length ys) xs))) ∙ take_at (take at xs ++ ys) (drop (at + length ys) xs) (at + length ys) n

-- the bytes that are said are the answer's
pub said_bytes : (s t : Session) (n : ℕ) (bs rs : List ℕ) → n ≡ s.said → t.bytes.now ≡ s.bytes.now → bs ≡ t.bytes.now → rs ≡ take n bs → rs ≡ written_answer (answer_of_lem s)
said_bytes s t n bs rs e b q r = r ∙ ap (take n) (q ∙ b) ∙ ap (λ (k : ℕ). take k s.bytes.now) e ∙ s.spoken

module _ (d : Disk) (e g : Listener) (s t : Session) (rs : List ℕ) (is : rs ≡ written_answer (answer_of_lem s)) (was : left s ≡ say (answer_of_lem s) ∷ left t) where
  pub said_world : spoken_in g.said.now g.heard ≡ spoken_in e.said.now e.heard ++ rs → g.heard.answers ≡ e.heard.answers + 1 → world d g ≡ after_act (world d e) (say (answer_of_lem s))
  unfolding done
  said_world p q = rw (p, q, is) refl
