-- TOP is looked through first, and BOT from what was found there.
use Rattle.std.proofs.Common.{◌∙◌, ap}
use Rattle.panel.specs.Code.{lowest_over}
use Rattle.panel.proofs.raising.lowest_of.Goals as goal

pub returns : goal.returns
returns c = c.lowest_over.ensures ∙ ap (lowest_over c.args.limit c.args.bot.now) c.lowest_over-tops.ensures
