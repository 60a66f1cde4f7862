use Rattle.std.proofs.Common.{List, All, subst, sym}
use Rattle.kms_model.specs.Orders.{shows_order}
use Rattle.kms_world.specs.Times.{IsTimelyOrder}
use Rattle.kms_world.specs.declared.order.OrderRow.{OrderRow}
use Rattle.kms_operations.specs.Filling.{IsFilled}
use Rattle.kms_operations.proofs.OrderLaws.{timely_page}
use Rattle.kms_operations.proofs.order_list.page_shown.Goals as goal

pub returns-clause-is : goal.returns-clause-is
returns-clause-is c =
    let page : IsFilled (shows_order c.args.caller.now) c.args.query.now c.args.rows.now.kept.state.orders c.in_ok-page.page.rows c.in_ok-page.page.total =
    subst (λ (l : List OrderRow). IsFilled (shows_order c.args.caller.now) c.args.query.now l c.in_ok-page.page.rows c.in_ok-page.page.total) c.orders.ensures c.in_ok-page.ensures in
    cc (c.in_ok-of.ensures, page.cut, page.count)

pub returns-clause-times : goal.returns-clause-times
returns-clause-times c =
    let page : IsFilled (shows_order c.args.caller.now) c.args.query.now c.args.rows.now.kept.state.orders c.in_ok-page.page.rows c.in_ok-page.page.total =
    subst (λ (l : List OrderRow). IsFilled (shows_order c.args.caller.now) c.args.query.now l c.in_ok-page.page.rows c.in_ok-page.page.total) c.orders.ensures c.in_ok-page.ensures in
    subst (All IsTimelyOrder) (sym page.cut) (timely_page c.args.rows.now.kept (shows_order c.args.caller.now) c.args.query.now c.see.ensures)
