-- The answers of `from_json`, turned round.
use Rattle.std.proofs.Common.{◌≡◌, ℕ, List, Some, None, Result, Ok, Err, IfOk, refl, ap, sym, ◌∙◌}
use Rattle.std.specs.Option.{option_and_then}
use Rattle.serde_json.specs.Data.{Data}
use Rattle.serde_json.specs.Read.{read}
use Rattle.udb_schema.specs.declared.words.Schema.{Schema}
use Rattle.udb_schema.specs.declared.reading.SchemaTextFault.{SchemaTextFault}
use Rattle.udb_schema.specs.declared.reading.SchemaTextFault.TheVariants.{Memory, Syntax, BadWord}
use Rattle.udb_schema.specs.Spelled.{schema_of, spelled}

nothing : (text : List ℕ) → read text ≡ None → spelled text ≡ None
nothing text h = ap (option_and_then schema_of) h

a_value : (text : List ℕ) (d : Data) → read text ≡ Some d → spelled text ≡ schema_of d
a_value text d h = ap (option_and_then schema_of) h

pub spelled_is_ok : (text : List ℕ) (r : Result Schema SchemaTextFault) → IfOk r (λ s. spelled text ≡ Some s) → (r ≡ Err Syntax → read text ≡ None) → (r ≡ Err BadWord → (d : Data) × (read text ≡ Some d) × (schema_of d ≡ None)) → (s : Schema) → spelled text ≡ Some s → (r ≡ Err Memory → ⊥) → r ≡ Ok s
spelled_is_ok text (Ok x) ok syn bad s h n = let e : Some x ≡ Some s = sym ok ∙ h in cc
spelled_is_ok text (Err Memory) ok syn bad s h n = absurd (n refl)
spelled_is_ok text (Err Syntax) ok syn bad s h n = absurd (let e : None ≡ Some s = sym (nothing text (syn refl)) ∙ h in cc)
spelled_is_ok text (Err BadWord) ok syn bad s h n = absurd (let b = bad refl in let e : None ≡ Some s = sym b.2 ∙ (sym (a_value text b.0 b.1) ∙ h) in cc)

pub no_value_is_syntax : (text : List ℕ) (r : Result Schema SchemaTextFault) → IfOk r (λ s. spelled text ≡ Some s) → (r ≡ Err BadWord → (d : Data) × (read text ≡ Some d) × (schema_of d ≡ None)) → read text ≡ None → (r ≡ Err Memory → ⊥) → r ≡ Err Syntax
no_value_is_syntax text (Ok x) ok bad h n = absurd (let e : Some x ≡ None = sym ok ∙ nothing text h in cc)
no_value_is_syntax text (Err Memory) ok bad h n = absurd (n refl)
no_value_is_syntax text (Err Syntax) ok bad h n = refl
no_value_is_syntax text (Err BadWord) ok bad h n = absurd (let b = bad refl in let e : Some b.0 ≡ None = sym b.1 ∙ h in cc)

pub no_schema_is_bad : (text : List ℕ) (r : Result Schema SchemaTextFault) → IfOk r (λ s. spelled text ≡ Some s) → (r ≡ Err Syntax → read text ≡ None) → (d : Data) → read text ≡ Some d → schema_of d ≡ None → (r ≡ Err Memory → ⊥) → r ≡ Err BadWord
no_schema_is_bad text (Ok x) ok syn d h g n = absurd (let e : Some x ≡ None = sym ok ∙ (a_value text d h ∙ g) in cc)
no_schema_is_bad text (Err Memory) ok syn d h g n = absurd (n refl)
no_schema_is_bad text (Err Syntax) ok syn d h g n = absurd (let e : Some d ≡ None = sym h ∙ syn refl in cc)
no_schema_is_bad text (Err BadWord) ok syn d h g n = refl
