-- The files that the program writes as outputs.
use Rattle.std.specs.Prelude.{string_bytes}
use Rattle.tool_base.specs.Outputs as spec
use Rattle.tool_base.specs.declared.outputs.Output.{Output}

-- the bytes of the name and of the file, and its readers
abbrev pub output_of : Output → spec.Output
output_of output = record { name = string_bytes output.name; bytes = output.bytes.items; readers = output.readers }
