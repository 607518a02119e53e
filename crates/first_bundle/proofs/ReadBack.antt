-- The entries of a bundle are read back from its lines.
use Rattle.std.proofs.Common.{◌≡◌, ℕ, zero, suc, ◌≤◌, Bool, true, false, cond, List, [], ◌∷◌, ◌++◌, map, length, drop, refl, ap, sym, ◌∙◌, arith, append_assoc, append-nil, codes, decimal, Some, option_and_then, length-append}
use Rattle.std.specs.List.{flat_map}
use Rattle.std.specs.Option.{option_map}
use Rattle.std.proofs.Math.Seq.{drop-append_seam}
use Rattle.udb_base.specs.declared.conditions.Value.{Value}
use Rattle.udb_base.specs.declared.conditions.Value.TheVariants.{Flag}
use Rattle.udb_base.specs.declared.spaces.Domain.{Domain}
use Rattle.udb_base.specs.declared.spaces.Domain.TheVariants.{Flags, Numbers}
use Rattle.idl_tree.specs.declared.programs.Base.TheVariants as b
use Rattle.idl_tree.specs.declared.statements.Stmt.{Stmt}
use Rattle.entry_tree.specs.declared.ParamEntry.{ParamEntry}
use Rattle.entry_tree.specs.declared.Encoding.{Encoding}
use Rattle.entry_tree.specs.declared.InstructionEntry.{InstructionEntry}
use Rattle.entry_tree.specs.declared.ConfigKind.{ConfigKind}
use Rattle.entry_tree.specs.declared.ConfigKind.TheVariants as kind
use Rattle.entry_tree.specs.declared.Given.{Given}
use Rattle.entry_tree.specs.declared.ConfigEntry.{ConfigEntry}
use Rattle.first_spec.specs.declared.bundle.FirstBundle.{FirstBundle}
use Rattle.idl_tree.specs.Each.{Each}
use Rattle.idl_tree.specs.Print.{stmt_lines}
use Rattle.first_spec.specs.Bundle.{bundle_part, schema_lines, param_lines, instruction_lines, config_lines, params_lines, bundle_lines, digits_among, value_word, given_line, kind_line, given_lines, IsSwitch, IsParam, IsInstruction, IsGiven, GivesParams, IsConfig, IsFirst, SpellsFirst}
use Rattle.first_bundle.specs.Lines.{plain, until, split_lines}
use Rattle.first_bundle.specs.Statements.{begins_with}
use Rattle.first_bundle.specs.Blocks.{read_body}
use Rattle.first_bundle.specs.Reading.{domain_of, param_of, after_param, is_param_part, params_onto, instruction_of, given_of, kind_of, givens_of, config_of, bundle_after, bundle_of}
use Rattle.first_bundle.proofs.Clean.{plain_same, split_text}
use Rattle.first_bundle.proofs.Names.{each_of, clean_parameter, clean_instruction_name, clean_config_name, clean_match, clean_text, switch_parameter, word_bytes, colon_stops, until_name}
use Rattle.first_bundle.proofs.Nested.{statements_read}
use Rattle.first_bundle.proofs.Words.{clean_bundle}

-- ---- parameters

domain_read : (h k n l t s name : List ℕ) (d : Domain) (rest : List (List ℕ)) → IsSwitch name d → domain_of (h ∷ k ∷ n ∷ l ∷ t ∷ s ∷ (schema_lines d ++ rest)) ≡ d
domain_read h k n l t s name Flags rest q = refl
domain_read h k n l t s name (Numbers ns) rest q = ap Numbers (sym q.1)
domain_read h k n l t s name d rest q = absurd q

after_read : (h k n l t s name : List ℕ) (d : Domain) (rest : List (List ℕ)) → IsSwitch name d → after_param (h ∷ k ∷ n ∷ l ∷ t ∷ s ∷ (schema_lines d ++ rest)) ≡ rest
after_read h k n l t s name Flags rest q = refl
after_read h k n l t s name (Numbers ns) rest q = refl
after_read h k n l t s name d rest q = absurd q

abbrev part_of : ParamEntry → List (List ℕ)
part_of p = bundle_part (codes "parameter") p.name (param_lines p)

param_read : (p : ParamEntry) (rest : List (List ℕ)) → IsParam p → param_of (part_of p ++ rest) ≡ p
param_read p rest h =
    let name : plain p.name ≡ p.name = plain_same p.name (clean_parameter p.name h.name) in
    let long_name : plain p.long_name ≡ p.long_name = plain_same p.long_name (clean_text p.long_name h.long_name) in
    let description : plain p.description ≡ p.description = plain_same p.description (clean_text p.description h.description) in
    let domain : domain_of (part_of p ++ rest) ≡ p.domain = domain_read [] [] [] [] [] [] p.name p.domain rest h.domain in
    λ i. record { name = name i; long_name = long_name i; description = description i; domain = domain i; defined = sym h.defined i; needs = sym h.needs i }

param_passed : (p : ParamEntry) (rest : List (List ℕ)) → IsParam p → after_param (part_of p ++ rest) ≡ rest
param_passed p rest h = after_read [] [] [] [] [] [] p.name p.domain rest h.domain

params_end : (n : ℕ) (done : List ParamEntry) (rest : List (List ℕ)) → is_param_part rest ≡ false → params_onto n done rest ≡ (done ++ [], rest)
params_end zero done rest e = ap (λ (d : List ParamEntry). (d, rest)) (sym (append-nil done))
params_end (suc n) done rest e =
    ap (λ (t : Bool). cond t (params_onto n (done ++ param_of rest ∷ []) (after_param rest)) (done, rest)) e
    ∙ ap (λ (d : List ParamEntry). (d, rest)) (sym (append-nil done))

param_taken : (n : ℕ) (done : List ParamEntry) (p : ParamEntry) (rest : List (List ℕ)) → IsParam p → params_onto (suc n) done (part_of p ++ rest) ≡ params_onto n (done ++ p ∷ []) rest
param_taken n done p rest h = let read = param_read p rest h in let passed = param_passed p rest h in λ i. params_onto n (done ++ read i ∷ []) (passed i)

params_read : (n : ℕ) (ps done : List ParamEntry) (rest : List (List ℕ)) → length ps ≤ n → Each IsParam ps → is_param_part rest ≡ false → params_onto n done (params_lines ps ++ rest) ≡ (done ++ ps, rest)
params_read n [] done rest l h e = params_end n done rest e
params_read zero (p ∷ ps) done rest l h e = absurd (omega arith)
params_read (suc n) (p ∷ ps) done rest l h e =
    ap (params_onto (suc n) done) (append_assoc (part_of p) (params_lines ps) rest)
    ∙ (param_taken n done p (params_lines ps ++ rest) h.0
    ∙ (params_read n ps (done ++ p ∷ []) rest (omega arith) h.1 e
    ∙ ap (λ (d : List ParamEntry). (d, rest)) (append_assoc done (p ∷ []) ps)))

params_long : (ps : List ParamEntry) → length ps ≤ length (params_lines ps)
params_long [] = omega arith
params_long (p ∷ ps) = omega (arith, params_long ps, length-append (part_of p) (params_lines ps))

-- ---- the instruction and the configuration

abbrev one_encoding : List ℕ → List Encoding
one_encoding digits = record { base = b.All; digits = digits } ∷ []

encodings_read : (ps : List ParamEntry) (x : InstructionEntry) → IsInstruction ps x → one_encoding (plain (digits_among x.encodings)) ≡ x.encodings
encodings_read ps x h =
    ap (λ (es : List Encoding). one_encoding (plain (digits_among es))) h.encodings
    ∙ (ap one_encoding (plain_same h.digits (clean_match h.digits h.matches)) ∙ sym h.encodings)

instruction_read : (ps : List ParamEntry) (x : InstructionEntry) (rest : List (List ℕ)) → IsInstruction ps x → instruction_of (bundle_part (codes "instruction") x.name (instruction_lines x) ++ rest) x.operation.statements ≡ x
instruction_read ps x rest h =
    let name : plain x.name ≡ x.name = plain_same x.name (clean_instruction_name x.name h.name) in
    let long_name : plain x.long_name ≡ x.long_name = plain_same x.long_name (clean_text x.long_name h.long_name) in
    let description : plain x.description ≡ x.description = plain_same x.description (clean_text x.description h.description) in
    let encodings : one_encoding (plain (digits_among x.encodings)) ≡ x.encodings = encodings_read ps x h in
    λ i. record { name = name i; long_name = long_name i; description = description i; assembly = sym h.assembly i; base = sym h.base i; encodings = encodings i; defined = sym h.defined i; operation = record { variables = sym h.variables i; statements = x.operation.statements } }

-- ---- given values

value_read : (name : List ℕ) (t : Bool) → Flag (begins_with (codes ": true") (drop (length name) (name ++ (codes ": " ++ value_word (Flag t))))) ≡ Flag t
value_read name true = ap (λ (x : List ℕ). Flag (begins_with (codes ": true") x)) (drop-append_seam name (codes ": true"))
value_read name false = ap (λ (x : List ℕ). Flag (begins_with (codes ": true") x)) (drop-append_seam name (codes ": false"))

given_read : (ps : List ParamEntry) → Each IsParam ps → (g : Given) → IsGiven ps g → given_of (given_line g) ≡ g
given_read ps fine g h =
    let parameter = switch_parameter ps fine g.name h.name in
    let until_colon : until 58 (g.name ++ (58 ∷ 32 ∷ value_word g.value)) ≡ g.name = until_name 58 g.name (32 ∷ value_word g.value) colon_stops refl (word_bytes g.name parameter) in
    let name : plain (until 58 (g.name ++ (58 ∷ 32 ∷ value_word g.value))) ≡ g.name = ap plain until_colon ∙ plain_same g.name (clean_parameter g.name parameter) in
    let value : Flag (begins_with (codes ": true") (drop (length (until 58 (g.name ++ (58 ∷ 32 ∷ value_word g.value)))) (g.name ++ (58 ∷ 32 ∷ value_word g.value)))) ≡ g.value =
    ap (λ (n : List ℕ). Flag (begins_with (codes ": true") (drop (length n) (g.name ++ (58 ∷ 32 ∷ value_word g.value))))) until_colon
    ∙ (ap (λ (v : Value). Flag (begins_with (codes ": true") (drop (length g.name) (g.name ++ (58 ∷ 32 ∷ value_word v))))) h.value
    ∙ (value_read g.name h.truth ∙ sym h.value)) in
    λ i. record { name = name i; value = value i }

givens_read : (ps : List ParamEntry) → Each IsParam ps → (gs : List Given) → Each (IsGiven ps) gs → map given_of (map given_line gs) ≡ gs
givens_read ps fine [] h = refl
givens_read ps fine (g ∷ gs) h = let e = given_read ps fine g h.0 in let f = givens_read ps fine gs h.1 in λ i. e i ∷ f i

kind_read : (ps : List ParamEntry) (a b c d : List ℕ) (k : ConfigKind) (gs : List Given) → GivesParams ps k gs → kind_of (a ∷ b ∷ c ∷ kind_line k ∷ d ∷ given_lines k gs) ≡ k
kind_read ps a b c d kind.Unconfigured gs h = refl
kind_read ps a b c d kind.Partially gs h = refl
kind_read ps a b c d kind.Fully gs h = absurd h

gives_read : (ps : List ParamEntry) → Each IsParam ps → (a b c d : List ℕ) (k : ConfigKind) (gs : List Given) → GivesParams ps k gs → givens_of (a ∷ b ∷ c ∷ kind_line k ∷ d ∷ given_lines k gs) ≡ gs
gives_read ps fine a b c d kind.Unconfigured gs h = sym h
gives_read ps fine a b c d kind.Partially gs h = givens_read ps fine gs (each_of (IsGiven ps) gs h.1.0)
gives_read ps fine a b c d kind.Fully gs h = absurd h

config_read : (ps : List ParamEntry) → Each IsParam ps → (x : ConfigEntry) → IsConfig ps x → config_of (bundle_part (codes "config") x.name (config_lines x)) ≡ x
config_read ps fine x h =
    let a : List ℕ = codes "=== " ++ (codes "config" ++ (32 ∷ x.name ++ (32 ∷ decimal (length (config_lines x))))) in
    let b : List ℕ = codes "kind: architecture configuration" in
    let c : List ℕ = codes "name: " ++ x.name in
    let d : List ℕ = codes "description: " ++ x.description in
    let name : plain x.name ≡ x.name = plain_same x.name (clean_config_name x.name h.name) in
    let description : plain x.description ≡ x.description = plain_same x.description (clean_text x.description h.description) in
    let shape : kind_of (bundle_part (codes "config") x.name (config_lines x)) ≡ x.kind = kind_read ps a b c d x.kind x.params h.gives in
    let params : givens_of (bundle_part (codes "config") x.name (config_lines x)) ≡ x.params = gives_read ps fine a b c d x.kind x.params h.gives in
    λ i. record { name = name i; description = description i; kind = shape i; params = params i; mandatory = sym h.mandatory i; prohibited = sym h.prohibited i; additional = sym h.additional i; implemented = sym h.implemented i }

-- ---- the bundle

abbrev last_parts : FirstBundle → List (List ℕ)
last_parts x = bundle_part (codes "instruction") x.instruction.name (instruction_lines x.instruction) ++ bundle_part (codes "config") x.config.name (config_lines x.config)

front_read : (x : FirstBundle) → IsFirst x → params_onto (length (bundle_lines x)) [] (bundle_lines x) ≡ (x.params, last_parts x)
front_read x h = params_read (length (bundle_lines x)) x.params [] (last_parts x) (omega (arith, params_long x.params, length-append (params_lines x.params) (last_parts x))) (each_of IsParam x.params h.params) refl

body_read : (x : FirstBundle) → IsFirst x → read_body x.params (drop 9 (last_parts x)) ≡ Some (x.instruction.operation.statements, bundle_part (codes "config") x.config.name (config_lines x.config))
body_read x h = statements_read x.params (each_of IsParam x.params h.params) 0 x.instruction.operation.statements h.instruction.statements [] [] (bundle_part (codes "config") x.config.name (config_lines x.config)) refl

last_read : (x : FirstBundle) → IsFirst x → bundle_after x.params (last_parts x) ≡ Some x
last_read x h =
    let instruction = instruction_read x.params x.instruction (bundle_part (codes "config") x.config.name (config_lines x.config)) h.instruction in
    let config = config_read x.params (each_of IsParam x.params h.params) x.config h.config in
    ap (option_map (λ (r : List Stmt × List (List ℕ)). let y : FirstBundle = record { params = x.params; instruction = instruction_of (last_parts x) r.0; config = config_of r.1 } in y)) (body_read x h)
    ∙ (λ i. Some (record { params = x.params; instruction = instruction i; config = config i }))

pub bundle_read : (x : FirstBundle) → IsFirst x → bundle_of (bundle_lines x) ≡ Some x
bundle_read x h = ap (λ (f : List ParamEntry × List (List ℕ)). bundle_after f.0 f.1) (front_read x h) ∙ last_read x h

-- what spells a bundle is read as that bundle
pub read_back : (bytes : List ℕ) (x : FirstBundle) → SpellsFirst bytes x → bundle_of (split_lines bytes) ≡ Some x
read_back bytes x h = ap (λ (t : List ℕ). bundle_of (split_lines t)) h.text ∙ (ap bundle_of (split_text (bundle_lines x) (clean_bundle x h.first)) ∙ bundle_read x h.first)
