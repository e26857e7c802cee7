-- With the steps of the rows linked, the nets are items that the code fills (`nets-begin`).
use Rattle.leftedge.specs.Nets.{net_items, fill}
use Rattle.leftedge.proofs.NetTurns.{nets-begin}
use Rattle.leftedge.proofs.nets.fill_nets.Goals as goal

pub fill_items-requires : goal.fill_items-requires
fill_items-requires c =
    record {
      it = net_items _;
      begins = nets-begin (rw (← c.nets.view_is) at c.requires) c.link_steps.ensures c.link_steps.auto.head
          c.link_steps.auto.under;
    }

pub returns : goal.returns
unfolding fill
returns c =
    let b = nets-begin (rw (← c.nets.view_is) at c.requires) c.link_steps.ensures c.link_steps.auto.head
    c.link_steps.auto.under in
    rw (← c.nets.view_is) (c.fill_items.ensures (net_items _) b)
