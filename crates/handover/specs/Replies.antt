-- The commands that lines ask for, and what the program prints for the answers.
use Rattle.std.specs.Prelude.{ℕ, Some, None, Option}
use Rattle.lines.specs.declared.input.Line.{Line}
use Rattle.lines.specs.declared.input.Line.TheVariants as line
use Rattle.lines.specs.declared.output.Reply.{Reply}
use Rattle.lines.specs.declared.output.Reply.TheVariants as reply
use Rattle.maps.specs.declared.Answer.{Answer}
use Rattle.maps.specs.declared.Answer.TheVariants.{New, Joined, Full, Dropped, Absent, Found}
use Rattle.maps.specs.declared.Command.{Command}
use Rattle.maps.specs.declared.Command.TheVariants.{Put, Drop, Get}
use Rattle.numbers.specs.declared.papers.Papers.{Papers}

abbrev pub reply_of : Answer Papers → Reply
reply_of (New v) = reply.New v.bits
reply_of (Joined v) = reply.Joined v.bits
reply_of Full = reply.Full
reply_of (Dropped v) = reply.Dropped v.bits
reply_of Absent = reply.Absent
reply_of (Found v) = reply.Found v.bits

-- the line that asks for a command, and the one that asks for none
abbrev pub line_for : Command ℕ Papers → Line
line_for (Put key value) = line.Put key value.bits
line_for (Drop key) = line.Drop key
line_for (Get key) = line.Get key

abbrev pub line_of : Option (Command ℕ Papers) → Line
line_of (Some command) = line_for command
line_of None = line.Seal
