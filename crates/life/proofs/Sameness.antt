-- A session that did some acts: only how far it came has changed.
use Rattle.std.proofs.Common.{◌≡◌, ℕ, ◌+◌, ◌-◌, List, drop, sym, ap, ◌∙◌, arith}
use Rattle.std.proofs.lemmas.List.{drop-drop}
use Rattle.ledger.specs.Meaning.{limits}
use Rattle.desk.specs.declared.Book.{Book}
use Rattle.session.specs.declared.Session.{Session}
use Rattle.session.specs.Session.{memory, Same}
use Rattle.sim.specs.declared.Disk.{Disk}
use Rattle.life.specs.declared.heard.Heard.{Heard}
use Rattle.life.specs.declared.heard.Listener.{Listener}
use Rattle.life.specs.Heard.{Behind}
use Rattle.life.specs.Life.{Stays}

pub same_more : (s t u : Session) → Same s t → Same t u → Same s u
same_more s t u p q =
    record { book = q.book ∙ p.book; journal = q.journal ∙ p.journal; bytes = q.bytes ∙ p.bytes; length_is = q.length_is ∙ p.length_is; answer = q.answer ∙ p.answer }

module _ (s t : Session) (e : Same s t) where
  pub memory_same : memory t ≡ memory s
  memory_same = let a = e.book in let b = e.journal in cc

  pub limits_same : limits t.book.ledger ≡ limits s.book.ledger
  limits_same = ap (λ (b : Book). limits b.ledger) e.book

-- bytes behind what was heard, and then behind what was heard since
pub behind_more : (bs cs ds : List ℕ) (h k m : Heard) → Behind bs h cs k → Behind cs k ds m → Behind bs h ds m
behind_more bs cs ds h k m p q =
    let g : k.bytes + (m.bytes - k.bytes) ≡ m.bytes = omega (arith, q.grown) in
    let back : (xs : List ℕ) → drop (m.bytes - k.bytes) (drop k.bytes xs) ≡ drop m.bytes xs = λ xs. drop-drop (m.bytes - k.bytes) k.bytes xs ∙ ap (λ (n : ℕ). drop n xs) g in
    record { grown = omega (arith, p.grown, q.grown); stays = q.stays ∙ sym (back cs) ∙ ap (drop (m.bytes - k.bytes)) p.stays ∙ back bs }

-- what stays, from one act to the next
pub stays_more : (d f h : Disk) (e g i : Listener) → Stays d f e g → Stays f h g i → Stays d h e i
stays_more d f h e g i p q =
    record {
      image = record { name = q.image.name ∙ p.image.name; size = q.image.size ∙ p.image.size };
      room_is = q.room_is ∙ p.room_is;
      said_is = q.said_is ∙ p.said_is;
      behind = behind_more e.said.now g.said.now i.said.now e.heard g.heard i.heard p.behind q.behind;
    }
