use Rattle.std.proofs.Common.{◌≡◌, ◌*◌, ◌/◌, ◌<◌, [], ◌∷◌, refl, sym, ap, ◌∙◌, subst, arith}
use Rattle.device.specs.Device.{say}
use Rattle.wire.specs.Format.{read_call_lem}
use Rattle.wire.specs.Meaning.{meant}
use Rattle.ledger.specs.Meaning.{bank, limits}
use Rattle.desk.specs.declared.Book.{Book}
use Rattle.journal.specs.declared.journal.Journal.{Journal}
use Rattle.journal.specs.Tail.{Appended}
use Rattle.session.specs.Joined.{Joined}
use Rattle.session.specs.declared.Session.{Session}
use Rattle.session.specs.declared.Stage.{Stage}
use Rattle.session.specs.declared.Stage.TheVariants.{Writing}
use Rattle.session.specs.Session.{left, left_of, answer_of_lem}
use Rattle.session.proofs.Replies.{follows}
use Rattle.session.proofs.Readable.{row_readable}
use Rattle.session.proofs.Steps.{Called, served_garbled, can_store, has_place, joined_on, joined_more, called_quiet, called_taken}
use Rattle.session.proofs.Session.call.Goals as goal

pub returns-in-Err : goal.returns-in-Err
returns-in-Err c =
    let s = c.args.self.now in
    let o = c.reply.ensures in
    let y = row_readable c.args.row.now (λ i. omega (arith, c.type_inv.row i)) (omega arith) in
    let q : Called s c.reply.new.self (read_call_lem c.args.row.now) =
    called_quiet s c.reply.new.self _ (read_call_lem c.args.row.now) s.book.ledger _ y c.in-Err.ensures (ap (λ (b : Book). b.ledger) o.book) o.answer (served_garbled s.book c.in-Err.place) o.journal o.stage in
    record { state = q.state; acts = q.acts; limits = q.limits; reached = q.onward }

pub invariant_of-self : goal.invariant_of-self
invariant_of-self c =
    let s = c.args.self.now in
    record { joined = joined_on s.book.ledger c.take.new.self.ledger s.journal _ _ _ c.take.ensures s.joined; roomy = s.roomy; spoken = s.spoken }

pub reply-requires-in-Changed : goal.reply-requires-in-Changed
reply-requires-in-Changed c = let g = c.args.self.now.book.ledger in follows (limits g) (bank g) (meant c.in-Ok.call) c.in-Changed.answer c.in-Changed.ensures.told_is

pub reply-requires-in-Unchanged : goal.reply-requires-in-Unchanged
reply-requires-in-Unchanged c = let g = c.args.self.now.book.ledger in follows (limits g) (bank g) (meant c.in-Ok.call) c.in-Unchanged.answer c.in-Unchanged.ensures.told_is

pub append-requires-clause-kept : goal.append-requires-clause-kept
append-requires-clause-kept c = can_store c.args.self.now c.take.new.self.ledger _ _ c.in-Changed.ensures

pub append-requires-clause-room : goal.append-requires-clause-room
append-requires-clause-room c =
    let e = c.reply-in-Changed.ensures.journal in
    subst (λ (j : Journal). j.count < 24 * j.blocks) (sym e) (has_place c.args.self.now c.take.new.self.ledger _ _ c.in-Changed.ensures)

pub invariant_of-self-in-Changed : goal.invariant_of-self-in-Changed
invariant_of-self-in-Changed c =
    let s = c.args.self.now in
    let u = c.reply-in-Changed.new.self in
    let o = c.reply-in-Changed.ensures in
    let j : Appended s.journal c.append.new.self (meant c.in-Ok.call) =
    subst (λ (x : Journal). Appended x c.append.new.self (meant c.in-Ok.call)) o.journal c.append.ensures.appended in
    record {
      joined =
          subst (λ (b : Book). Joined b.ledger c.append.new.self) (sym o.book)
          (joined_more s.book.ledger c.take.new.self.ledger s.journal c.append.new.self _ _ c.in-Changed.ensures j s.joined);
      roomy = u.roomy;
      spoken = u.spoken;
    }

pub returns-in-Changed : goal.returns-in-Changed
returns-in-Changed c =
    let s = c.args.self.now in
    let o = c.reply-in-Changed.ensures in
    let y = row_readable c.args.row.now (λ i. omega (arith, c.type_inv.row i)) (omega arith) in
    let j : Appended s.journal c.append.new.self (meant c.in-Ok.call) =
    subst (λ (x : Journal). Appended x c.append.new.self (meant c.in-Ok.call)) o.journal c.append.ensures.appended in
    let at : c.append.result ≡ s.journal.count / 24 = c.append.ensures.block.0 ∙ ap (λ (x : Journal). x.count / 24) o.journal in
    let u = c.reply-in-Changed.new.self in
    let t : Session =
    record {
      book = u.book;
      journal = c.append.new.self;
      bytes = u.bytes;
      said = u.said;
      answer = u.answer;
      stage = Writing c.append.result;
      joined =
          subst (λ (b : Book). Joined b.ledger c.append.new.self) (sym o.book)
          (joined_more s.book.ledger c.take.new.self.ledger s.journal c.append.new.self _ _ c.in-Changed.ensures j s.joined);
      roomy = u.roomy;
      spoken = u.spoken;
    } in
    let q : Called s t (read_call_lem c.args.row.now) =
    called_taken s t _ (read_call_lem c.args.row.now) c.take.new.self.ledger _ y c.in-Ok.ensures (ap (λ (b : Book). b.ledger) o.book) o.answer c.append.result c.in-Changed.ensures j refl at in
    record { state = q.state; acts = q.acts; limits = q.limits; reached = q.onward }

pub returns-in-Unchanged : goal.returns-in-Unchanged
returns-in-Unchanged c =
    let s = c.args.self.now in
    let o = c.reply-in-Unchanged.ensures in
    let y = row_readable c.args.row.now (λ i. omega (arith, c.type_inv.row i)) (omega arith) in
    let t = c.reply-in-Unchanged.new.self in
    let q : Called s t (read_call_lem c.args.row.now) =
    called_quiet s t _ (read_call_lem c.args.row.now) c.take.new.self.ledger _ y c.in-Ok.ensures (ap (λ (b : Book). b.ledger) o.book) o.answer c.in-Unchanged.ensures o.journal o.stage in
    let said : left t ≡ say (answer_of_lem t) ∷ [] = ap (λ (x : Stage). left_of x t.journal.block.now (answer_of_lem t)) o.stage in
    let acts = q.acts in
    record { state = q.state; acts = (cc); limits = q.limits; reached = q.onward }
