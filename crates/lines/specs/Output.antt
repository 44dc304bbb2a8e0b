-- The lines that the program prints: one for each line that it reads, without the byte 10 behind it.
use Rattle.std.specs.Prelude.{ℕ, List, ◌++◌, codes, decimal}
use Rattle.lines.specs.declared.output.Reply.{Reply}
use Rattle.lines.specs.declared.output.Reply.TheVariants.{New, Joined, Full, Dropped, Absent, Found, Sealed, Refused, Bad}

abbrev pub text_of : Reply → List ℕ
text_of (New v) = codes "new " ++ decimal v
text_of (Joined v) = codes "joined " ++ decimal v
text_of Full = codes "full"
text_of (Dropped v) = codes "dropped " ++ decimal v
text_of Absent = codes "absent"
text_of (Found v) = codes "found " ++ decimal v
text_of (Sealed n) = codes "sealed " ++ decimal n
text_of (Refused n) = codes "refused " ++ decimal n
text_of Bad = codes "bad line"
