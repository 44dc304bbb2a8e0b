use Rattle.std.proofs.Common.{Ok, refl}
use Rattle.image.specs.Image.{body, image}
use Rattle.layout.specs.Capacity.{capacity, power}
use Rattle.layout.specs.Cells.{layout, places, place, free, next}
use Rattle.layout.specs.Map.{put, without}
use Rattle.text.proofs.Making.{blind_by}
use Rattle.text.specs.Keys.{key_from}
use Rattle.text.specs.Making.{Makes}
use Rattle.text.specs.Rows.{row_kept}
use Rattle.text.specs.Words.{packed, unpacked, word_at}
use Rattle.text.specs.declared.key.TextKey.{TextKey}
use Rattle.examples.specs.Examples.{RowsHold, OneKey, small_ab, large_ab}
use Rattle.examples.proofs.examples_hold.Goals as goal

rows_hold : RowsHold
unfolding layout places place free next put without capacity power body image
rows_hold = refl

-- the key of both texts
ab : TextKey
unfolding row_kept unpacked word_at
ab = key_from (packed large_ab) refl

small : Makes small_ab (Ok ab)
unfolding ab unpacked word_at
small = (refl, refl)

large : Makes large_ab (Ok ab)
unfolding ab unpacked word_at
large = (refl, refl)

one_key : OneKey
one_key = (
  ab,
  (small, λ r. blind_by small_ab (Ok ab) small small_ab r refl),
  (large, λ r. blind_by large_ab (Ok ab) large large_ab r refl),
)

pub returns : goal.returns
returns c = record { hold = (rows_hold, one_key); count = refl }
