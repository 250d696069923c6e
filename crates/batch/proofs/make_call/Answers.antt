use Rattle.std.proofs.Common.{Bool, cond, sym, ap, ◌∙◌}
use Rattle.entries.specs.Books.{places_left}
use Rattle.session.specs.declared.event.Event.TheVariants.{Start, Usage}
use Rattle.session.specs.View.{view}
use Rattle.batch.specs.Batch.{group_key}
use Rattle.batch.proofs.Stepping.{is_stepped, stays_handed}
use Rattle.batch.proofs.make_call.Goals as goal

pub returns-then-call : goal.returns-then-call
returns-then-call c =
    let call = c.args.call.now in
    let link = c.args.link.now in
    let k = group_key call.rating_group in
    let e = c.usage.ensures in
    let is = is_stepped (view c.args.session.now.ledger) call (Usage k call.uplink call.downlink) (cond link.up (places_left link.below) 0)
    (ap (λ (b : Bool). cond b (Usage k call.uplink call.downlink) (Start k)) (sym c.if-call.true))
    (ap (λ (b : Bool). cond b (places_left link.below) 0) c.requires)
    c.usage.result _ _ c.is_ok.ensures.value e.does.answers e.does.becomes in
    record { answer = is.0; after = is.1; down = stays_handed _ _ _ e.lends.hands ∙ c.requires }

pub returns-else-call : goal.returns-else-call
returns-else-call c =
    let call = c.args.call.now in
    let link = c.args.link.now in
    let k = group_key call.rating_group in
    let e = c.start.ensures in
    let is = is_stepped (view c.args.session.now.ledger) call (Start k) (cond link.up (places_left link.below) 0)
    (ap (λ (b : Bool). cond b (Usage k call.uplink call.downlink) (Start k)) (sym c.if-call.false))
    (ap (λ (b : Bool). cond b (places_left link.below) 0) c.requires)
    c.start.result _ _ c.is_ok-else-call.ensures.value e.does.answers e.does.becomes in
    record { answer = is.0; after = is.1; down = stays_handed _ _ _ e.lends.hands ∙ c.requires }
