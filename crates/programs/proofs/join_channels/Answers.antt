-- The rows that `join` filled make the pin list of the panel (`join-filled`), or the line of its refusal is written
-- (`join-refused`).
use Rattle.std.proofs.Common.{arith}
use Rattle.text.specs.PutLaws.{put_same}
use Rattle.programs.specs.Code.{channel_of}
use Rattle.programs.specs.JoinLaws.{JoinedRows, join-refused, join-filled}
use Rattle.programs.proofs.join_channels.Goals as goal
use Rattle.programs.proofs.join_channels.Goals.{In-Ok}

filled : (c : In-Ok) → JoinedRows (channel_of c.args.first.now) (channel_of c.args.second.now)
    c.join.new.top c.join.new.bot c.in-Ok.w
filled c =
    let done = rw (c.top.ensures, c.bot.ensures, c.top-2.ensures, c.bot-2.ensures) at c.join.ensures in
    join-filled c.args.first.now.escape c.args.second.now.escape (omega arith, omega arith) done c.in-Ok.is c.join.auto.top
    c.join.auto.bot

pub slice_bounds-top-end : goal.slice_bounds-top-end
slice_bounds-top-end c = (filled (goal.at.slice_bounds-top-end c).In-Ok).top-inside

pub slice_bounds-put_pin_list-end : goal.slice_bounds-put_pin_list-end
slice_bounds-put_pin_list-end c = (filled (goal.at.slice_bounds-put_pin_list-end c).In-Ok).top-size

pub slice_bounds-bot-end : goal.slice_bounds-bot-end
slice_bounds-bot-end c = (filled (goal.at.slice_bounds-bot-end c).In-Ok).bot-inside

pub slice_bounds-put_pin_list-end-in-Ok : goal.slice_bounds-put_pin_list-end-in-Ok
slice_bounds-put_pin_list-end-in-Ok c = (filled (goal.at.slice_bounds-put_pin_list-end-in-Ok c).In-Ok).bot-size

pub put_pin_list-requires : goal.put_pin_list-requires
put_pin_list-requires c =
    let f = filled (goal.at.put_pin_list-requires c).In-Ok in
    (omega (arith, f.narrow, f.top-size), omega (arith, f.narrow, f.bot-size), c.requires)

pub returns-in-Ok-clause-put : goal.returns-in-Ok-clause-put
returns-in-Ok-clause-put c =
    put_same c.put_pin_list.ensures.put (filled (goal.at.returns-in-Ok-clause-put c).In-Ok).text

pub returns-in-Err-clause-put : goal.returns-in-Err-clause-put
returns-in-Err-clause-put c =
    let done = rw (c.top.ensures, c.bot.ensures, c.top-2.ensures, c.bot-2.ensures) at c.join.ensures in
    put_same c.put_refusal.ensures.put
    (join-refused c.args.first.now.escape c.args.second.now.escape (omega arith, omega arith) done c.in-Err.is)
