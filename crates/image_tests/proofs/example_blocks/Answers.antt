use Rattle.std.proofs.Common.{refl}
use Rattle.layout.specs.Capacity.{power, capacity}
use Rattle.layout.specs.Cells.{next, distance, free, place, places, layout, records_of}
use Rattle.layout.specs.Map.{put}
use Rattle.layout.specs.Places.{out_of_place}
use Rattle.image.specs.Image.{body, image}
use Rattle.image.specs.Opened.{marked, breaks, header_check, bits_check, walk, layout_check, tail_check, opened}
use Rattle.image_tests.proofs.example_blocks.Goals as goal

pub returns : goal.returns
unfolding power capacity next distance free place places layout records_of put out_of_place body image marked breaks header_check bits_check walk layout_check tail_check opened
returns c = record { image = refl; refusals = (refl, refl, refl, refl, refl, refl, refl, refl, refl); blocks = refl }
