-- Statement: the token value that a `Seen` of the code is.
use Rattle.std.specs.Prelude.{List, map}
use Rattle.idl_token.specs.Numbers as numbers
use Rattle.idl_token.specs.Symbol.{Symbol}
use Rattle.idl_token.specs.Symbol as t
use Rattle.idl_token.specs.declared.views.Seen.{Seen}
use Rattle.idl_token.specs.declared.views.Seen.TheVariants as v

abbrev pub symbol : Seen → Symbol
symbol (v.Word x) = t.word x.now
symbol (v.Reserved r) = t.reserved r
symbol (v.Special p) = t.special p
symbol (v.Number k) = t.number k
symbol (v.SizedNumber w f k) = t.sized (numbers.Number w) f k
symbol (v.SizedWord w f k) = t.sized (numbers.Parameter w.now) f k
symbol (v.Quoted x) = t.quoted x.now
symbol v.Described = t.described
symbol (v.Sign s) = t.sign s

abbrev pub symbols : List Seen → List Symbol
symbols ts = map symbol ts
