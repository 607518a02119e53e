-- What the entries that were read have by the way in which they are read.
use Rattle.std.proofs.Common.{◌≡◌, ℕ, zero, suc, Bool, true, false, cond, List, [], ◌∷◌, ◌++◌, length, drop, refl, subst, codes, Option, None, Some, map}
use Rattle.std.specs.Option.{option_map}
use Rattle.udb_base.specs.declared.conditions.Cond.TheVariants.{Always}
use Rattle.idl_tree.specs.declared.programs.Base.TheVariants as b
use Rattle.idl_tree.specs.declared.statements.Stmt.{Stmt}
use Rattle.entry_tree.specs.declared.ParamEntry.{ParamEntry}
use Rattle.entry_tree.specs.declared.InstructionEntry.{InstructionEntry}
use Rattle.udb_base.specs.declared.conditions.Value.TheVariants.{Flag}
use Rattle.entry_tree.specs.declared.ConfigKind.{ConfigKind}
use Rattle.entry_tree.specs.declared.ConfigKind.TheVariants as kind
use Rattle.entry_tree.specs.declared.Given.{Given}
use Rattle.entry_tree.specs.declared.ConfigEntry.{ConfigEntry}
use Rattle.first_spec.specs.declared.bundle.FirstBundle.{FirstBundle}
use Rattle.idl_tree.specs.Each.{Each}
use Rattle.first_spec.specs.Bundle.{digits_among, AreStatements}
use Rattle.first_bundle.specs.Lines.{until}
use Rattle.first_bundle.specs.Statements.{begins_with}
use Rattle.first_bundle.specs.Blocks.{read_body}
use Rattle.first_bundle.specs.Reading.{param_of, after_param, is_param_part, params_onto, instruction_of, given_of, gives_params, kind_of, givens_of, config_of, bundle_of}
use Rattle.first_bundle.proofs.Opened.{FineBody, body_fine}

pub record ReadParam (x : ParamEntry) : Type 0 where
  pub defined : x.defined ≡ Always
  pub needs : x.needs ≡ Always

pub record ReadInstruction (ps : List ParamEntry) (x : InstructionEntry) : Type 0 where
  pub assembly : x.assembly ≡ []
  pub base : x.base ≡ None
  pub encodings : x.encodings ≡ record { base = b.All; digits = digits_among x.encodings } ∷ []
  pub defined : x.defined ≡ Always
  pub variables : x.operation.variables ≡ []
  pub statements : AreStatements ps 0 x.operation.statements

-- a truth value is given
pub record IsTruth (g : Given) : Type 0 where
  pub truth : Bool
  pub value : g.value ≡ Flag truth

abbrev pub ReadGivens : ConfigKind → List Given → Type 0
ReadGivens kind.Unconfigured gs = gs ≡ []
ReadGivens kind.Partially gs = Each IsTruth gs
ReadGivens kind.Fully gs = ⊥

pub record ReadConfig (x : ConfigEntry) : Type 0 where
  pub gives : ReadGivens x.kind x.params
  pub mandatory : x.mandatory ≡ []
  pub prohibited : x.prohibited ≡ []
  pub additional : x.additional ≡ true
  pub implemented : x.implemented ≡ []

pub record IsRead (x : FirstBundle) : Type 0 where
  pub params : Each ReadParam x.params
  pub instruction : ReadInstruction x.params x.instruction
  pub config : ReadConfig x.config

each_more : {X : Type 0} (P : X → Type 0) (xs : List X) (y : X) → Each P xs → P y → Each P (xs ++ y ∷ [])
each_more P [] y h k = (k, tt)
each_more P (x ∷ xs) y h k = (h.0, each_more P xs y h.1 k)

-- ---- parameters

param_shaped : (t : Bool) (n : ℕ) (done : List ParamEntry) (lines : List (List ℕ)) → Each ReadParam done → ((d : List ParamEntry) (ls : List (List ℕ)) → Each ReadParam d → Each ReadParam (params_onto n d ls).0) → Each ReadParam (cond t (params_onto n (done ++ param_of lines ∷ []) (after_param lines)) (done, lines)).0
param_shaped true n done lines h more = more (done ++ param_of lines ∷ []) (after_param lines) (each_more ReadParam done (param_of lines) h (record { defined = refl; needs = refl }))
param_shaped false n done lines h more = h

params_shaped : (n : ℕ) (done : List ParamEntry) (lines : List (List ℕ)) → Each ReadParam done → Each ReadParam (params_onto n done lines).0
params_shaped zero done lines h = h
params_shaped (suc n) done lines h = param_shaped (is_param_part lines) n done lines h (params_shaped n)

-- ---- given values

givens_shaped : (ls : List (List ℕ)) → Each IsTruth (map given_of ls)
givens_shaped [] = tt
givens_shaped (l ∷ ls) = (record { truth = begins_with (codes ": true") (drop (length (until 58 (drop 2 l))) (drop 2 l)); value = refl }, givens_shaped ls)

kind_shaped : (t : Bool) (ls : List (List ℕ)) → ReadGivens (cond t kind.Partially kind.Unconfigured) (cond t (map given_of ls) [])
kind_shaped true ls = givens_shaped ls
kind_shaped false ls = refl

-- ---- the bundle

abbrev IsReadIfAny : Option FirstBundle → Type 0
IsReadIfAny None = Unit {0}
IsReadIfAny (Some x) = IsRead x

instruction_shaped : (ps : List ParamEntry) (lines : List (List ℕ)) (xs : List Stmt) → AreStatements ps 0 xs → ReadInstruction ps (instruction_of lines xs)
instruction_shaped ps lines xs h = record { assembly = refl; base = refl; encodings = refl; defined = refl; variables = refl; statements = h }

config_shaped : (lines : List (List ℕ)) → ReadConfig (config_of lines)
config_shaped lines = record { gives = kind_shaped (gives_params lines) (drop 6 lines); mandatory = refl; prohibited = refl; additional = refl; implemented = refl }

abbrev made : List ParamEntry → List (List ℕ) → List Stmt × List (List ℕ) → FirstBundle
made params lines r = record { params = params; instruction = instruction_of lines r.0; config = config_of r.1 }

last_shaped : (params : List ParamEntry) (lines : List (List ℕ)) (o : Option (List Stmt × List (List ℕ))) → Each ReadParam params → FineBody params o → IsReadIfAny (option_map (made params lines) o)
last_shaped params lines None p h = tt
last_shaped params lines (Some r) p h = record { params = p; instruction = instruction_shaped params lines r.0 h; config = config_shaped r.1 }

read_shaped : (lines : List (List ℕ)) → IsReadIfAny (bundle_of lines)
read_shaped lines =
    let front : List ParamEntry × List (List ℕ) = params_onto (length lines) [] lines in
    last_shaped front.0 front.1 (read_body front.0 (drop 9 front.1)) (params_shaped (length lines) [] lines tt) (body_fine front.0 (drop 9 front.1))

pub is_read : (lines : List (List ℕ)) (x : FirstBundle) → bundle_of lines ≡ Some x → IsRead x
is_read lines x e = subst IsReadIfAny e (read_shaped lines)
