-- What a write of a block does to lent bytes.
use Rattle.std.proofs.Common.{◌≡◌, ℕ, ◌+◌, ◌*◌, ◌/◌, ◌<◌, ◌≤◌, List, ◌++◌, length, take, drop, set, get_or, None, sym, ap, ◌∙◌, mul-le-mul_right, add-mul, div-mul-le_self, arith}
use Rattle.std.proofs.lemmas.List.{drop-drop}
use borrow.Rule.Slice.PartMut.{put_mid}
use Rattle.store.specs.Places.{Place, places}
use Rattle.store.specs.Lent.{overwritten, lent_count, lent_places}
use Rattle.store.proofs.Rows.{get_or_places, set_places, length_overwritten, rest_behind, own_part, other_part}

-- part i of the parts of w bytes lies within
pub part_within : (len w i : ℕ) → i < len / w → i * w + w ≤ len
part_within len w i h = omega (arith, mul-le-mul_right w h, add-mul i 1 w, div-mul-le_self len w)

-- what part i shows
pub part_shown : (bytes : List ℕ) (w : ℕ) (show : List ℕ → Place) (i start n : ℕ) → i < lent_count w bytes → start ≡ i * w → n ≡ w
    → show (take n (drop start bytes)) ≡ get_or (lent_places w show bytes) i None
part_shown bytes w show i start n lt es en =
    ap (λ m. show (take m (drop start bytes))) en ∙ ap (λ k. show (take w (drop k bytes))) es
    ∙ sym (get_or_places _ (λ k. show (take w (drop (k * w) bytes))) i None lt)

-- a part that was written in place
pub written_part : (bytes : List ℕ) (a k start : ℕ) (part new : List ℕ) → part ≡ new → a ≡ start → k ≡ length new → put_mid a k bytes part ≡ overwritten bytes start new
written_part bytes a k start part new ep ea ek =
    ap (λ n. take n bytes ++ (part ++ drop k (drop n bytes))) ea
    ∙ ap (λ v. take start bytes ++ (v ++ drop k (drop start bytes))) ep
    ∙ ap (λ v. take start bytes ++ (new ++ v)) (drop-drop k start bytes ∙ ap (λ m. drop (start + m) bytes) ek)

-- nothing behind the last whole part of w bytes is written
pub tail_kept : (bytes : List ℕ) (w i : ℕ) (new bytes' : List ℕ) → length new ≡ w → i < length bytes / w → bytes' ≡ overwritten bytes (i * w) new
    → drop (length bytes / w * w) bytes' ≡ drop (length bytes / w * w) bytes
tail_kept bytes w i new bytes' wide h e =
    let fits = part_within (length bytes) w i h in
    ap (drop (length bytes / w * w)) e
    ∙ rest_behind bytes (i * w) new (rw wide fits) (length bytes / w * w) (omega (arith, mul-le-mul_right w h, add-mul i 1 w))

-- what parts of w bytes show, each by itself, after one of them is written over
pub parts_after : (bytes : List ℕ) (w i : ℕ) (new bytes' : List ℕ) (show : List ℕ → Place) (p : Place)
    → length new ≡ w → i < length bytes / w → show new ≡ p → bytes' ≡ overwritten bytes (i * w) new
    → places (length bytes' / w) (λ k. show (take w (drop (k * w) bytes'))) ≡ set (places (length bytes / w) (λ k. show (take w (drop (k * w) bytes)))) i p
parts_after bytes w i new bytes' show p wide h shows e =
    let fits = part_within (length bytes) w i h in
    ap (λ v. places (length v / w) (λ k. show (take w (drop (k * w) v)))) e
    ∙ set_places _ _ (λ k. show (take w (drop (k * w) bytes))) (λ k. show (take w (drop (k * w) (overwritten bytes (i * w) new)))) i p
    (ap (λ n. n / w) (length_overwritten bytes (i * w) new (rw wide fits))) h
    (ap show (own_part bytes w i new wide fits) ∙ shows)
    (λ k l ne. ap show (other_part bytes w i new wide fits k ne))
