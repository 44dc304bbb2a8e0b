-- What the iterator over lines gives.
use Rattle.std.specs.Prelude.{◌≡◌, ◌<◌, List, ℕ, [], length, Option, MatchOption}
use Rattle.std.specs.Borrow.{Bor}
use Rattle.lines.specs.Input.{cut}
use Rattle.lines.specs.declared.input.Lines.{Lines}

-- the bytes of the lines that are still to come
abbrev pub unread : Lines → List ℕ
unread s = s.left.now

-- a call gave the first line and left the rest, or gave nothing where nothing was left
abbrev pub GivesLine : Lines → Option (Bor (List ℕ)) → Lines → Type 0
GivesLine s r t = MatchOption r ((unread s ≡ []) × (unread t ≡ [])) (λ line. (0 < length (unread s)) × ((line.now, unread t) ≡ cut (unread s)))
