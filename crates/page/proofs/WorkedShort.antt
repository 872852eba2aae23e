-- Fewer bytes than a thing needs, worked: no bytes are no header, a mark alone is no chunk, and a header alone is no chunk of four bytes.
-- Assumes nothing.
use Rattle.std.specs.Prelude.{Ok, Err, None}
use Rattle.types.specs.Checks.{corruption}
use mathlib.Core.Path.{◌≡◌, refl}
use mathlib.Core.Bool.{false}
use mathlib.Core.List.{[], ◌∷◌}
use Rattle.types.specs.Bytes.{word, bytes_of}
use Rattle.page.specs.Chunks.{chunk_header, chunk_at}
use Rattle.page.specs.Headers.{page_header_fine}

pub no_header : page_header_fine [] 0 0 0 ≡ false
unfolding page_header_fine
no_header = refl

pub mark-alone : chunk_at (0xC5 ∷ 0x59 ∷ []) 0 ≡ Ok None
unfolding chunk_at
mark-alone = refl

pub payload-missing : chunk_at (chunk_header 4 0) 0 ≡ Err corruption
unfolding chunk_at chunk_header word bytes_of
payload-missing = refl
