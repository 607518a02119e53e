-- What was read and passes is a bundle, and each bundle passes.
use Rattle.std.proofs.Common.{◌≡◌, ℕ, zero, suc, ◌<◌, Bool, true, false, not, ◌&&◌, ◌||◌, List, [], ◌∷◌, map, length, refl, ap, ◌∙◌, arith, codes, nat_le, get_or, Contains, Some, leb-true, le-leb}
use Rattle.std.specs.List.{list_all, list_any}
use Rattle.std.specs.Cmp.Lexicographic.{slice_cmp, bytes_decides}
use Rattle.std.specs.Ordering.{nat_cmp, is_lt}
use Rattle.udb_base.specs.declared.spaces.Domain.{Domain}
use Rattle.udb_base.specs.declared.spaces.Domain.TheVariants.{Flags, Numbers}
use Rattle.udb_spec.specs.Conditions.{same_bytes}
use Rattle.entry_tree.specs.declared.ParamEntry.{ParamEntry}
use Rattle.entry_tree.specs.declared.InstructionEntry.{InstructionEntry}
use Rattle.entry_tree.specs.declared.ConfigKind.{ConfigKind}
use Rattle.entry_tree.specs.declared.ConfigKind.TheVariants as kind
use Rattle.entry_tree.specs.declared.Given.{Given}
use Rattle.entry_tree.specs.declared.ConfigEntry.{ConfigEntry}
use Rattle.first_spec.specs.declared.bundle.FirstBundle.{FirstBundle}
use Rattle.idl_tree.specs.Each.{Each}
use Rattle.udb_base.specs.Lines.{text_of_lines}
use Rattle.first_spec.specs.Alphabets.{begins, is_upper, is_word_byte, is_parameter_name, is_instruction_name, is_config_name, is_idl_type, is_idl_member, is_text, is_match}
use Rattle.first_spec.specs.Bundle.{param_lines, instruction_lines, config_lines, digits_among, Fits, IsSwitch, IsParam, Rise, is_switch_name, IsInstruction, IsGiven, GivesParams, IsConfig, IsFirst}
use Rattle.first_bundle.specs.Checks.{fits, is_mxlen, is_switch, plain_param_passes, param_passes, rises_from, plain_instruction_passes, instruction_passes, plain_config_passes, givens_pass, gives_pass, config_passes, names_pass, bundle_passes}
use Rattle.first_bundle.specs.Reading.{bundle_of}
use Rattle.first_bundle.proofs.Clean.{left_so, right_so, both_so}
use Rattle.first_bundle.proofs.Names.{each_of, all_of, switch_parameter, upper_first}
use Rattle.first_bundle.proofs.Shaped.{ReadParam, ReadInstruction, IsTruth, ReadGivens, ReadConfig, IsRead, is_read}

fits_so : (lines : List (List ℕ)) → fits lines ≡ true → Fits lines
fits_so lines h = leb-true (length (text_of_lines lines)) 65536 h

so_fits : (lines : List (List ℕ)) → Fits lines → fits lines ≡ true
so_fits lines h = le-leb (length (text_of_lines lines)) 65536 h

not_so : (b : Bool) → not b ≡ true → b ≡ true → ⊥
not_so true h k = absurd (cc)
not_so false h k = absurd (cc)

so_not : (b : Bool) → (b ≡ true → ⊥) → not b ≡ true
so_not true h = absurd (h refl)
so_not false h = refl

-- ---- a parameter

switch_so : (name : List ℕ) (d : Domain) → is_switch name d ≡ true → IsSwitch name d
switch_so name Flags h = λ e. not_so (is_mxlen name) h ((bytes_decides name (codes "MXLEN")).1 e)
switch_so name (Numbers ns) h = (
  (bytes_decides name (codes "MXLEN")).0 (left_so (is_mxlen name) (same_bytes ns (32 ∷ [])) h),
  (bytes_decides ns (32 ∷ [])).0 (right_so (is_mxlen name) (same_bytes ns (32 ∷ [])) h),
)
switch_so name d h = absurd (cc)

so_switch : (name : List ℕ) (d : Domain) → IsSwitch name d → is_switch name d ≡ true
so_switch name Flags h = so_not (is_mxlen name) (λ e. h ((bytes_decides name (codes "MXLEN")).0 e))
so_switch name (Numbers ns) h = both_so (is_mxlen name) (same_bytes ns (32 ∷ [])) ((bytes_decides name (codes "MXLEN")).1 h.0) ((bytes_decides ns (32 ∷ [])).1 h.1)
so_switch name d h = absurd h

param_so : (x : ParamEntry) → ReadParam x → param_passes x ≡ true → IsParam x
param_so x r h =
    let a = left_so (plain_param_passes x) (fits (param_lines x)) h in
    let b = right_so (is_parameter_name x.name) (is_text x.long_name && (is_text x.description && is_switch x.name x.domain)) a in
    let c = right_so (is_text x.long_name) (is_text x.description && is_switch x.name x.domain) b in
    record {
      name = left_so (is_parameter_name x.name) (is_text x.long_name && (is_text x.description && is_switch x.name x.domain)) a;
      long_name = left_so (is_text x.long_name) (is_text x.description && is_switch x.name x.domain) b;
      description = left_so (is_text x.description) (is_switch x.name x.domain) c;
      domain = switch_so x.name x.domain (right_so (is_text x.description) (is_switch x.name x.domain) c);
      defined = r.defined;
      needs = r.needs;
      size = fits_so (param_lines x) (right_so (plain_param_passes x) (fits (param_lines x)) h);
    }

so_param : (x : ParamEntry) → IsParam x → param_passes x ≡ true
so_param x h = both_so (plain_param_passes x) (fits (param_lines x)) (both_so (is_parameter_name x.name) _ h.name (both_so (is_text x.long_name) _ h.long_name (both_so (is_text x.description) (is_switch x.name x.domain) h.description (so_switch x.name x.domain h.domain)))) (so_fits (param_lines x) h.size)

params_so : (ps : List ParamEntry) → Each ReadParam ps → list_all param_passes ps ≡ true → Each IsParam ps
params_so [] r h = tt
params_so (p ∷ ps) r h = (param_so p r.0 (left_so (param_passes p) (list_all param_passes ps) h), params_so ps r.1 (right_so (param_passes p) (list_all param_passes ps) h))

so_params : (ps : List ParamEntry) → Each IsParam ps → list_all param_passes ps ≡ true
so_params [] h = refl
so_params (p ∷ ps) h = both_so (param_passes p) (list_all param_passes ps) (so_param p h.0) (so_params ps h.1)

-- ---- names

rises_on : (n : List ℕ) (ns : List (List ℕ)) → rises_from n ns ≡ true → Rise (n ∷ ns)
rises_on n [] h = tt
rises_on n (m ∷ ns) h = (left_so (is_lt (slice_cmp nat_cmp n m)) (rises_from m ns) h, rises_on m ns (right_so (is_lt (slice_cmp nat_cmp n m)) (rises_from m ns) h))

rises_so : (ns : List (List ℕ)) → rises_from [] ns ≡ true → Rise ns
rises_so [] h = tt
rises_so (n ∷ ns) h = rises_on n ns (right_so (is_lt (slice_cmp nat_cmp [] n)) (rises_from n ns) h)

on_rises : (n : List ℕ) (ns : List (List ℕ)) → Rise (n ∷ ns) → rises_from n ns ≡ true
on_rises n [] h = refl
on_rises n (m ∷ ns) h = both_so (is_lt (slice_cmp nat_cmp n m)) (rises_from m ns) h.0 (on_rises m ns h.1)

past_nothing : (n : List ℕ) → begins is_upper n ≡ true → is_lt (slice_cmp nat_cmp [] n) ≡ true
past_nothing [] h = absurd (cc)
past_nothing (b ∷ bs) h = refl

so_rises : (ns : List (List ℕ)) → Each (λ n. is_parameter_name n ≡ true) ns → Rise ns → rises_from [] ns ≡ true
so_rises [] h r = refl
so_rises (n ∷ ns) h r = both_so (is_lt (slice_cmp nat_cmp [] n)) (rises_from n ns) (past_nothing n (upper_first n h.0)) (on_rises n ns r)

param_names : (ps : List ParamEntry) → Each IsParam ps → Each (λ n. is_parameter_name n ≡ true) (map (λ p. p.name) ps)
param_names [] h = tt
param_names (p ∷ ps) h = (h.0.name, param_names ps h.1)

abbrev HasMxlen : List ParamEntry → Type 0
HasMxlen ps = (p : ParamEntry) × (Contains ps p × (p.name ≡ codes "MXLEN"))

mxlen_later : (p : ParamEntry) (ps : List ParamEntry) → HasMxlen ps → HasMxlen (p ∷ ps)
mxlen_later p ps (q, ((k, l, e), n)) = (q, ((suc k, omega arith, e), n))

mxlen_here : (t : Bool) (p : ParamEntry) (ps : List ParamEntry) → is_mxlen p.name ≡ t → (t || list_any (λ (x : ParamEntry). is_mxlen x.name) ps) ≡ true → (list_any (λ (x : ParamEntry). is_mxlen x.name) ps ≡ true → HasMxlen ps) → HasMxlen (p ∷ ps)
mxlen_here true p ps e h more = (p, ((0, omega arith, refl), (bytes_decides p.name (codes "MXLEN")).0 e))
mxlen_here false p ps e h more = mxlen_later p ps (more h)

mxlen_so : (ps : List ParamEntry) → list_any (λ (x : ParamEntry). is_mxlen x.name) ps ≡ true → HasMxlen ps
mxlen_so [] h = absurd (cc)
mxlen_so (p ∷ ps) h = mxlen_here (is_mxlen p.name) p ps refl h (mxlen_so ps)

or_later : (p q : Bool) → q ≡ true → (p || q) ≡ true
or_later true q h = refl
or_later false q h = h

so_mxlen : (ps : List ParamEntry) (k : ℕ) (x : ParamEntry) → k < length ps → get_or ps k x ≡ x → x.name ≡ codes "MXLEN" → list_any (λ (y : ParamEntry). is_mxlen y.name) ps ≡ true
so_mxlen [] k x l e n = absurd (omega arith)
so_mxlen (p ∷ ps) zero x l e n = ap (λ (t : Bool). t || list_any (λ (y : ParamEntry). is_mxlen y.name) ps) ((bytes_decides p.name (codes "MXLEN")).1 (ap (λ (y : ParamEntry). y.name) e ∙ n))
so_mxlen (p ∷ ps) (suc k) x l e n = or_later (is_mxlen p.name) (list_any (λ (y : ParamEntry). is_mxlen y.name) ps) (so_mxlen ps k x (omega arith) e n)

-- ---- the instruction and the configuration

instruction_so : (ps : List ParamEntry) (x : InstructionEntry) → ReadInstruction ps x → instruction_passes x ≡ true → IsInstruction ps x
instruction_so ps x r h =
    let a = left_so (plain_instruction_passes x) (fits (instruction_lines x)) h in
    let b = right_so (is_instruction_name x.name) (is_text x.long_name && (is_text x.description && (is_match (digits_among x.encodings) && nat_le 1 (length x.operation.statements)))) a in
    let c = right_so (is_text x.long_name) (is_text x.description && (is_match (digits_among x.encodings) && nat_le 1 (length x.operation.statements))) b in
    let d = right_so (is_text x.description) (is_match (digits_among x.encodings) && nat_le 1 (length x.operation.statements)) c in
    record {
      name = left_so (is_instruction_name x.name) (is_text x.long_name && (is_text x.description && (is_match (digits_among x.encodings) && nat_le 1 (length x.operation.statements)))) a;
      long_name = left_so (is_text x.long_name) (is_text x.description && (is_match (digits_among x.encodings) && nat_le 1 (length x.operation.statements))) b;
      description = left_so (is_text x.description) (is_match (digits_among x.encodings) && nat_le 1 (length x.operation.statements)) c;
      assembly = r.assembly;
      base = r.base;
      digits = digits_among x.encodings;
      encodings = r.encodings;
      matches = left_so (is_match (digits_among x.encodings)) (nat_le 1 (length x.operation.statements)) d;
      defined = r.defined;
      variables = r.variables;
      some = leb-true 1 (length x.operation.statements) (right_so (is_match (digits_among x.encodings)) (nat_le 1 (length x.operation.statements)) d);
      statements = r.statements;
      size = fits_so (instruction_lines x) (right_so (plain_instruction_passes x) (fits (instruction_lines x)) h);
    }

so_instruction : (ps : List ParamEntry) (x : InstructionEntry) → IsInstruction ps x → instruction_passes x ≡ true
so_instruction ps x h =
    let digits : is_match (digits_among x.encodings) ≡ true = ap (λ es. is_match (digits_among es)) h.encodings ∙ h.matches in
    both_so (plain_instruction_passes x) (fits (instruction_lines x))
    (both_so (is_instruction_name x.name) _ h.name (both_so (is_text x.long_name) _ h.long_name (both_so (is_text x.description) _ h.description (both_so (is_match (digits_among x.encodings)) (nat_le 1 (length x.operation.statements)) digits (le-leb 1 (length x.operation.statements) h.some)))))
    (so_fits (instruction_lines x) h.size)

-- a truth value that is given to a Boolean parameter
given_so : (ps : List ParamEntry) (g : Given) → IsTruth g → is_switch_name ps g.name ≡ true → IsGiven ps g
given_so ps g t h = record { name = h; truth = t.truth; value = t.value }

givens_so : (ps : List ParamEntry) (gs : List Given) → Each IsTruth gs → list_all (λ g. is_switch_name ps g.name) gs ≡ true → Each (IsGiven ps) gs
givens_so ps [] t h = tt
givens_so ps (g ∷ gs) t h = (given_so ps g t.0 (left_so (is_switch_name ps g.name) (list_all (λ (x : Given). is_switch_name ps x.name) gs) h), givens_so ps gs t.1 (right_so (is_switch_name ps g.name) (list_all (λ (x : Given). is_switch_name ps x.name) gs) h))

so_givens : (ps : List ParamEntry) (gs : List Given) → Each (IsGiven ps) gs → list_all (λ g. is_switch_name ps g.name) gs ≡ true
so_givens ps [] h = refl
so_givens ps (g ∷ gs) h = both_so (is_switch_name ps g.name) (list_all (λ (x : Given). is_switch_name ps x.name) gs) h.0.name (so_givens ps gs h.1)

given_names : (ps : List ParamEntry) → Each IsParam ps → (gs : List Given) → Each (IsGiven ps) gs → Each (λ n. is_parameter_name n ≡ true) (map (λ g. g.name) gs)
given_names ps fine [] h = tt
given_names ps fine (g ∷ gs) h = (switch_parameter ps fine g.name h.0.name, given_names ps fine gs h.1)

gives_so : (ps : List ParamEntry) (k : ConfigKind) (gs : List Given) → ReadGivens k gs → gives_pass ps k gs ≡ true → GivesParams ps k gs
gives_so ps kind.Unconfigured gs r h = r
gives_so ps kind.Partially gs r h =
    let some = left_so (nat_le 1 (length gs)) (givens_pass ps gs) h in
    let rest = right_so (nat_le 1 (length gs)) (givens_pass ps gs) h in
    let each = left_so (list_all (λ (g : Given). is_switch_name ps g.name) gs) (rises_from [] (map (λ (g : Given). g.name) gs)) rest in
    let rise = right_so (list_all (λ (g : Given). is_switch_name ps g.name) gs) (rises_from [] (map (λ (g : Given). g.name) gs)) rest in
    (leb-true 1 (length gs) some, (all_of (IsGiven ps) gs (givens_so ps gs r each), rises_so (map (λ (g : Given). g.name) gs) rise))
gives_so ps kind.Fully gs r h = r

so_gives : (ps : List ParamEntry) → Each IsParam ps → (k : ConfigKind) (gs : List Given) → GivesParams ps k gs → gives_pass ps k gs ≡ true
so_gives ps fine kind.Unconfigured gs h = refl
so_gives ps fine kind.Partially gs h =
    let each = each_of (IsGiven ps) gs h.1.0 in
    both_so (nat_le 1 (length gs)) (givens_pass ps gs) (le-leb 1 (length gs) h.0)
    (both_so (list_all (λ (g : Given). is_switch_name ps g.name) gs) (rises_from [] (map (λ (g : Given). g.name) gs)) (so_givens ps gs each) (so_rises (map (λ (g : Given). g.name) gs) (given_names ps fine gs each) h.1.1))
so_gives ps fine kind.Fully gs h = absurd h

config_so : (ps : List ParamEntry) (x : ConfigEntry) → ReadConfig x → config_passes ps x ≡ true → IsConfig ps x
config_so ps x r h =
    let a = left_so (plain_config_passes x) (gives_pass ps x.kind x.params && fits (config_lines x)) h in
    let b = right_so (plain_config_passes x) (gives_pass ps x.kind x.params && fits (config_lines x)) h in
    record {
      name = left_so (is_config_name x.name) (is_text x.description) a;
      description = right_so (is_config_name x.name) (is_text x.description) a;
      gives = gives_so ps x.kind x.params r.gives (left_so (gives_pass ps x.kind x.params) (fits (config_lines x)) b);
      mandatory = r.mandatory;
      prohibited = r.prohibited;
      additional = r.additional;
      implemented = r.implemented;
      size = fits_so (config_lines x) (right_so (gives_pass ps x.kind x.params) (fits (config_lines x)) b);
    }

so_config : (ps : List ParamEntry) → Each IsParam ps → (x : ConfigEntry) → IsConfig ps x → config_passes ps x ≡ true
so_config ps fine x h =
    both_so (plain_config_passes x) (gives_pass ps x.kind x.params && fits (config_lines x)) (both_so (is_config_name x.name) (is_text x.description) h.name h.description)
    (both_so (gives_pass ps x.kind x.params) (fits (config_lines x)) (so_gives ps fine x.kind x.params h.gives) (so_fits (config_lines x) h.size))

-- ---- the bundle

passed : (x : FirstBundle) → IsRead x → bundle_passes x ≡ true → IsFirst x
passed x r h =
    let names = left_so (names_pass x.params) (list_all param_passes x.params && (instruction_passes x.instruction && config_passes x.params x.config)) h in
    let a = right_so (names_pass x.params) (list_all param_passes x.params && (instruction_passes x.instruction && config_passes x.params x.config)) h in
    let b = right_so (list_all param_passes x.params) (instruction_passes x.instruction && config_passes x.params x.config) a in
    record {
      params = all_of IsParam x.params (params_so x.params r.params (left_so (list_all param_passes x.params) (instruction_passes x.instruction && config_passes x.params x.config) a));
      rises = rises_so (map (λ p. p.name) x.params) (left_so (rises_from [] (map (λ (p : ParamEntry). p.name) x.params)) (list_any (λ (p : ParamEntry). is_mxlen p.name) x.params) names);
      mxlen = mxlen_so x.params (right_so (rises_from [] (map (λ (p : ParamEntry). p.name) x.params)) (list_any (λ (p : ParamEntry). is_mxlen p.name) x.params) names);
      instruction = instruction_so x.params x.instruction r.instruction (left_so (instruction_passes x.instruction) (config_passes x.params x.config) b);
      config = config_so x.params x.config r.config (right_so (instruction_passes x.instruction) (config_passes x.params x.config) b);
    }

-- what was read and passes is a bundle
pub read_passed : (lines : List (List ℕ)) (x : FirstBundle) → bundle_of lines ≡ Some x → bundle_passes x ≡ true → IsFirst x
read_passed lines x e h = passed x (is_read lines x e) h

-- a bundle passes
pub passes : (x : FirstBundle) → IsFirst x → bundle_passes x ≡ true
passes x h =
    let params = each_of IsParam x.params h.params in
    both_so (names_pass x.params) (list_all param_passes x.params && (instruction_passes x.instruction && config_passes x.params x.config))
    (both_so (rises_from [] (map (λ (p : ParamEntry). p.name) x.params)) (list_any (λ (p : ParamEntry). is_mxlen p.name) x.params) (so_rises (map (λ p. p.name) x.params) (param_names x.params params) h.rises) (so_mxlen x.params h.mxlen.1.0.0 h.mxlen.0 h.mxlen.1.0.1 h.mxlen.1.0.2 h.mxlen.1.1))
    (both_so (list_all param_passes x.params) (instruction_passes x.instruction && config_passes x.params x.config) (so_params x.params params)
    (both_so (instruction_passes x.instruction) (config_passes x.params x.config) (so_instruction x.params x.instruction h.instruction) (so_config x.params params x.config h.config)))
