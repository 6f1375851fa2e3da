-- Areas in order lie one behind another from page 0 on.
use Rattle.area_list.proofs.Order.{IsFrom-in_order}
use Rattle.area_list.proofs.Unique.{one_list}
use Rattle.area_list.proofs.laws.same_pages_same_areas.Goals as goal

pub returns : goal.returns
returns c one other order_one order_other same =
    one_list 0 0 one other (IsFrom-in_order one order_one) (IsFrom-in_order other order_other) order_one order_other same
