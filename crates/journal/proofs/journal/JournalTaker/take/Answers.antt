use Rattle.std.proofs.Common.{◌≡◌, ◌+◌, ◌∷◌, length, ap, ◌∙◌, arith}
use Rattle.journal.specs.Layout.{book_in}
use Rattle.journal.specs.Journals.{entry_count, places_left}
use Rattle.journal.proofs.GrowthLaws.{entries_grown}
use Rattle.journal.proofs.JournalLaws.{admitted, room_fits}
use Rattle.journal.proofs.journal.JournalTaker.take.Goals as goal

pub returns-clause-after : goal.returns-clause-after
returns-clause-after c =
    let j = c.args.self.now in
    let n = entry_count j in
    let es = c.args.head.now ∷ c.args.containers.now in
    let room = (admitted c.args.head.now c.args.containers.now (places_left j) _ (rw c.intake.ensures at c.in_ok-admit.ensures)).1 in
    let fits = room_fits (length j.bytes.now) n (length c.args.containers.now) room in
    let k : (j.requests + 1) + (j.containers + length c.args.containers.now) ≡ n + length es = omega arith in
    ap (λ m. book_in m c.write_request.new.bytes) k
    ∙ (ap (book_in (n + length es)) c.write_request.ensures.bytes
    ∙ entries_grown j.bytes.now n j.requests es (omega (arith, fits)) c.write_request.ensures.fits)
