-- Parts that are read one by one: what was read, with what is still ahead, is the whole. Serves `parts`.
use Rattle.std.specs.Prelude.{List, ◌++◌, Some, None, Option}
use Rattle.script.specs.declared.command.Part.{Part}

-- What was read, with what is still ahead.
abbrev pub ahead : List Part → Option (List Part) → Option (List Part)
ahead parts None = None
ahead parts (Some more) = Some (parts ++ more)
