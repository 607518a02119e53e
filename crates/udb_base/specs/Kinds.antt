-- The words of the kinds of entries.
use Rattle.std.specs.Prelude.{ℕ, List, codes}
use Rattle.udb_base.specs.declared.kinds.Kind.{Kind}
use Rattle.udb_base.specs.declared.kinds.Kind.TheVariants.{Extension, Parameter, Instruction, Csr, Functions, Config}

abbrev pub kind_word : Kind → List ℕ
kind_word Extension = codes "extension"
kind_word Parameter = codes "parameter"
kind_word Instruction = codes "instruction"
kind_word Csr = codes "csr"
kind_word Functions = codes "functions"
kind_word Config = codes "config"
