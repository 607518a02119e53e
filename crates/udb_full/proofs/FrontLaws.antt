-- A name and a space before a text.
use Rattle.std.proofs.Common.{◌≡◌, ℕ, List, [], ◌∷◌, ◌++◌, drop, Option, None, Some, sym, ap, ◌∙◌}
use Rattle.std.proofs.lemmas.List.{append_cancel_left}
use Rattle.udb_base.specs.Fronts.{after}
use Rattle.udb_base.proofs.FrontLemmas.{after-is, not-after}
use Rattle.udb_full.specs.Found.{IsNamed}
use Rattle.udb_full.proofs.FoundLaws.{none-found}

-- a name alone, without a space
pub no-name : (name line : List ℕ) → None ≡ after name line → IsNamed name line None
no-name name line none = none-found (λ text. Unit {0}) (λ text. name ++ (32 ∷ text)) line (λ text of is. not-after name line (32 ∷ text) none is)

pub named : (name line rest : List ℕ) (o : Option (List ℕ)) → Some rest ≡ after name line → o ≡ after (32 ∷ []) rest → IsNamed name line o
named name line rest (Some text) first second = record {
  right = (tt, ap (λ r. name ++ r) (after-is (32 ∷ []) rest text (sym second)) ∙ after-is name line rest (sym first));
  only = λ other of is.
      let tails : 32 ∷ other ≡ 32 ∷ text = append_cancel_left name (32 ∷ other) rest (is ∙ sym (after-is name line rest (sym first))) ∙ sym (after-is (32 ∷ []) rest text (sym second)) in
      ap (λ t. Some (drop 1 t)) (sym tails);
}
named name line rest None first second = none-found (λ text. Unit {0}) (λ text. name ++ (32 ∷ text)) line (λ other of is. not-after (32 ∷ []) rest other second (append_cancel_left name (32 ∷ other) rest (is ∙ sym (after-is name line rest (sym first)))))
