-- Two bytes of the erase value that we ship, worked: as a number they are FFFF. Assumes nothing.
use mathlib.Core.Path.{◌≡◌, refl}
use Rattle.types.specs.Build.{erase_value}
use Rattle.types.specs.Bytes.{word}
use Rattle.slices.specs.Patch.{blank}

pub erased-word : word (blank erase_value 2) ≡ 0xFFFF
unfolding word blank
erased-word = refl
