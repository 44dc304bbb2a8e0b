-- the laws of images, all of them
use Rattle.std.proofs.Common.{replicate, sym, ap, ◌∙◌}
use Rattle.image.specs.Image.{image, body}
use Rattle.maps.specs.Maps.{Kinds, KindsLaws}
use Rattle.image.specs.Laws.{ImageLaws}
use Rattle.image.specs.Opened.{opened}
use Rattle.image.proofs.Chains.{ok_same}
use Rattle.image.proofs.Bodies.{bytes_append, bytes_zero, bytes_body, body_length, longest}
use Rattle.image.proofs.Opens.{image_size, opens}
use Rattle.image.proofs.Only.{only}

pub image_laws : (F : Type 0) {K Row V : Type 0} (x : Kinds K Row V) → KindsLaws x → ImageLaws F x
unfolding image
image_laws F x laws = record {
  size = λ n h w room. image_size x n h room;
  bytes = λ n h w. bytes_append (body x h) (replicate _ 0) (bytes_body x laws h w) (bytes_zero _);
  opens = λ n h w room. opens F x laws n h w room;
  only = λ bs small h o. only x laws bs small F h o;
  one = λ n g h wg wh rg rh e. ok_same g h (sym (opens F x laws n g wg rg) ∙ ap (opened {F = F} x) e ∙ opens F x laws n h wh rh);
  long = body_length x laws;
  longest = longest x laws;
}
