-- What widths name, form by form.
use Rattle.idl_spec.specs.CostLaws.{named-Number, named-Word, named-Plus, named-Minus, named-Times, named-Max, named-Bits}

pub ruleset named_laws = (named-Number, named-Word, named-Plus, named-Minus, named-Times, named-Max, named-Bits)
