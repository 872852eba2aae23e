use mathlib.Core.Path.{◌∙◌}
use Rattle.reader.proofs.StateLaws.{unread-zero}
use Rattle.reader.proofs.page_reader.PageReader.new.Goals as goal

pub returns : goal.returns
returns c = record { answers = c.unread.ensures.answers ∙ unread-zero c.zero.result c.zero.ensures.answers }
