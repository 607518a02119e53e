-- Machinery: what is known of the values of a row's tokens.
use Rattle.std.specs.Prelude.{◌≡◌, ◌<◌, ◌^◌, true, List, [], ◌∷◌, length}
use Rattle.std.specs.List.{list_all}
use Rattle.idl_token.specs.Numbers.{Number, Parameter}
use Rattle.idl_token.specs.Values.{IsWord}
use Rattle.idl_token.specs.Front.{is_no_quote}
use Rattle.idl_token.specs.Symbol.{Symbol, word, number, sized, quoted}

-- words are words, numbers are below 2 ^ 128, and texts have no quote mark
abbrev pub IsSpelledSymbol : Symbol → Type 0
IsSpelledSymbol (word x) = IsWord x × (0 < length x)
IsSpelledSymbol (number n) = n < 2 ^ 128
IsSpelledSymbol (sized (Number n) signed v) = (n < 2 ^ 128) × (v < 2 ^ 128)
IsSpelledSymbol (sized (Parameter x) signed v) = IsWord x × (0 < length x) × (v < 2 ^ 128)
IsSpelledSymbol (quoted x) = list_all is_no_quote x ≡ true
IsSpelledSymbol _ = Unit {0}

abbrev pub AreSpelled : List Symbol → Type 0
AreSpelled [] = Unit {0}
AreSpelled (t ∷ ts) = IsSpelledSymbol t × AreSpelled ts
