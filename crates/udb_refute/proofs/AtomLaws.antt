-- An atom says of its variable alone what it says of the space.
use Rattle.std.proofs.Common.{◌≡◌, ℕ, suc, ◌+◌, ◌<◌, ◌≤◌, Bool, true, false, List, [], ◌∷◌, map, length, Option, None, Some, slice_get, refl, sym, ap, ◌∙◌, cond, subst, arith}
use Rattle.std.specs.HashMap.{get_by_text}
use Rattle.std.proofs.lemmas.Option.{none-some, same_Some}
use Rattle.udb_base.specs.declared.versions.Requirement.{Requirement}
use Rattle.udb_base.specs.declared.conditions.Value.{Value}
use Rattle.udb_base.specs.declared.conditions.Test.{Test}
use Rattle.udb_base.specs.declared.conditions.Cond.{Cond}
use Rattle.udb_base.specs.declared.conditions.Cond.TheVariants as c
use Rattle.udb_base.specs.declared.refutations.Known.{Known}
use Rattle.udb_base.specs.declared.refutations.Known.TheVariants.{No}
use Rattle.udb_base.specs.declared.spaces.ExtSpace.{ExtSpace}
use Rattle.udb_base.specs.declared.spaces.ParamSpace.{ParamSpace}
use Rattle.udb_base.specs.declared.spaces.Space.{Space}
use Rattle.udb_spec.specs.Conditions.{same_bytes, choice_meets, passes}
use Rattle.udb_spec.specs.Cells.{Step, choices_of, ext_cells, param_cells}
use Rattle.udb_spec.specs.Known.{known, known_over, ext_known, param_known}
use Rattle.udb_spec.specs.KnownLaws.{known-Ext, known-Param}
use Rattle.udb_spec.specs.Refutes.{is_unsplit}
use Rattle.udb_refute.specs.declared.boards.Left.{Left}
use Rattle.udb_refute.specs.declared.boards.Board.{Board}
use Rattle.udb_refute.specs.declared.variables.Variable.{Variable}
use Rattle.udb_refute.specs.declared.variables.Variables.{Variables}
use Rattle.udb_refute.specs.Boards.{left_on, IsBoard, split_path, path_of}
use Rattle.udb_refute.specs.Paths.{choice_on}
use Rattle.udb_refute.specs.Search.{is_range, IsOpen}
use Rattle.udb_refute.specs.Variables.{alone_extension, alone_param, extension_among, param_among, HasVariables}
use Rattle.udb_refute.proofs.BoardLaws.{split-alike, param-alike}

chosen : (b : Bool) (k l : Known) → b ≡ true → cond b k l ≡ k
chosen true k l e = refl
chosen false k l e = cc

-- ---- extensions

extension-none : (path : List Step) (es : List ExtSpace) (k : ℕ) (name : List ℕ) (needs : List Requirement) → extension_among es name k ≡ None → ext_known path k es name needs ≡ No
extension-none path [] k name needs e = refl
extension-none path (x ∷ es) k name needs e = by_test (same_bytes x.name name) e (extension-none path es (k + 1) name needs) where
  by_test : (b : Bool) → cond b (Some (record { place = k; alone = alone_extension x })) (extension_among es name (k + 1)) ≡ None → (extension_among es name (k + 1) ≡ None → ext_known path (k + 1) es name needs ≡ No) → cond b (known_over (map (choice_meets x.versions needs) (ext_cells path k x))) (ext_known path (k + 1) es name needs) ≡ No
  by_test true f rest = absurd (none-some (record { place = k; alone = alone_extension x }) (sym f))
  by_test false f rest = rest f

extension-place : (es : List ExtSpace) (k : ℕ) (name : List ℕ) (v : Variable) → extension_among es name k ≡ Some v → v.place < k + length es
extension-place [] k name v e = absurd (none-some v e)
extension-place (x ∷ es) k name v e = by_test (same_bytes x.name name) e (extension-place es (k + 1) name v) where
  by_test : (b : Bool) → cond b (Some (record { place = k; alone = alone_extension x })) (extension_among es name (k + 1)) ≡ Some v → (extension_among es name (k + 1) ≡ Some v → v.place < k + 1 + length es) → v.place < k + length (x ∷ es)
  by_test true f rest = let at : k ≡ v.place = ap (λ (w : Variable). w.place) (same_Some (record { place = k; alone = alone_extension x }) v f) in omega (arith, at)
  by_test false f rest = omega (arith, rest f)

extension-alone : (path : List Step) (k : ℕ) (x : ExtSpace) (name : List ℕ) (needs : List Requirement) (choice : Option ℕ) → same_bytes x.name name ≡ true → choice ≡ choice_on path false k → 1 ≤ length (ext_cells path k x) → known (alone_extension x) (split_path false choice []) (c.Ext name needs) ≡ known_over (map (choice_meets x.versions needs) (ext_cells path k x))
extension-alone path k x name needs choice own is some =
    known-Ext (alone_extension x) (split_path false choice []) name needs
    ∙ (chosen (same_bytes x.name name) _ _ own
    ∙ ap (λ cells. known_over (map (choice_meets x.versions needs) cells)) (split-alike path false k choice (choices_of x) is some))

extension-found : (path : List Step) (es : List ExtSpace) (k : ℕ) (name : List ℕ) (needs : List Requirement) (v : Variable) (choice : Option ℕ) → extension_among es name k ≡ Some v → choice ≡ choice_on path false v.place → ((i : ℕ) (x : ExtSpace) → slice_get es i ≡ Some x → 1 ≤ length (ext_cells path (k + i) x)) → known v.alone (split_path false choice []) (c.Ext name needs) ≡ ext_known path k es name needs
extension-found path [] k name needs v choice e is some = absurd (none-some v e)
extension-found path (x ∷ es) k name needs v choice e is some =
    by_test (same_bytes x.name name) refl e
    (λ f. extension-found path es (k + 1) name needs v choice f is (λ i y there. let at : k + suc i ≡ k + 1 + i = omega arith in subst (λ n. 1 ≤ length (ext_cells path n y)) at (some (suc i) y there))) where
      by_test : (b : Bool) → same_bytes x.name name ≡ b → cond b (Some (record { place = k; alone = alone_extension x })) (extension_among es name (k + 1)) ≡ Some v → (extension_among es name (k + 1) ≡ Some v → known v.alone (split_path false choice []) (c.Ext name needs) ≡ ext_known path (k + 1) es name needs) → known v.alone (split_path false choice []) (c.Ext name needs) ≡ cond b (known_over (map (choice_meets x.versions needs) (ext_cells path k x))) (ext_known path (k + 1) es name needs)
      by_test true own f rest =
          let at : k + 0 ≡ k = omega arith in
          let here = subst (λ n. 1 ≤ length (ext_cells path n x)) at (some 0 x refl) in
          subst (λ (w : Variable). choice ≡ choice_on path false w.place → known w.alone (split_path false choice []) (c.Ext name needs) ≡ known_over (map (choice_meets x.versions needs) (ext_cells path k x)))
          (same_Some (record { place = k; alone = alone_extension x }) v f) (λ there. extension-alone path k x name needs choice own there here) is
      by_test false own f rest = rest f

module _ (space : Space) (path : List Step) (variables : Variables) (board : Board) (named : HasVariables space variables) (shown : IsBoard space path board) (open_ : IsOpen space path) (cond_ : Cond) (name : List ℕ) where
  pub extension-unknown : (needs : List Requirement) → get_by_text variables.extensions name ≡ None → cond_ ≡ c.Ext name needs → No ≡ known space path cond_
  extension-unknown needs none is =
      sym (ap (known space path) is ∙ (known-Ext space path name needs ∙ extension-none path space.extensions 0 name needs (sym (named.extensions name) ∙ none)))

  pub extension-read : (needs : List Requirement) (v : Variable) (choice : Option ℕ) (k : Known) → get_by_text variables.extensions name ≡ Some v → ((o : Option ℕ) → slice_get board.extensions v.place ≡ Some o → choice ≡ o) → k ≡ known v.alone (split_path false choice []) cond_ → cond_ ≡ c.Ext name needs → k ≡ known space path cond_
  extension-read needs v choice k found reads answer is =
      let among = sym (named.extensions name) ∙ found in
      let here = reads (choice_on path false v.place) (shown.extensions v.place (omega (arith, extension-place space.extensions 0 name v among))) in
      answer ∙ (ap (known v.alone (split_path false choice [])) is
      ∙ (extension-found path space.extensions 0 name needs v choice among here (λ i x there. let at : i ≡ 0 + i = omega arith in subst (λ n. 1 ≤ length (ext_cells path n x)) at (open_.extensions i x there))
      ∙ (sym (known-Ext space path name needs) ∙ ap (known space path) (sym is))))

-- ---- parameters

param-none : (path : List Step) (ps : List ParamSpace) (k : ℕ) (name : List ℕ) (test : Test) (given : Value) → param_among ps name k ≡ None → param_known path k ps name test given ≡ No
param-none path [] k name test given e = refl
param-none path (x ∷ ps) k name test given e = by_test (same_bytes x.name name) e (param-none path ps (k + 1) name test given) where
  by_test : (b : Bool) → cond b (Some (record { place = k; alone = alone_param x })) (param_among ps name (k + 1)) ≡ None → (param_among ps name (k + 1) ≡ None → param_known path (k + 1) ps name test given ≡ No) → cond b (known_over (map (λ y. passes test y given) (param_cells path k x.domain))) (param_known path (k + 1) ps name test given) ≡ No
  by_test true f rest = absurd (none-some (record { place = k; alone = alone_param x }) (sym f))
  by_test false f rest = rest f

param-place : (ps : List ParamSpace) (k : ℕ) (name : List ℕ) (v : Variable) → param_among ps name k ≡ Some v → v.place < k + length ps
param-place [] k name v e = absurd (none-some v e)
param-place (x ∷ ps) k name v e = by_test (same_bytes x.name name) e (param-place ps (k + 1) name v) where
  by_test : (b : Bool) → cond b (Some (record { place = k; alone = alone_param x })) (param_among ps name (k + 1)) ≡ Some v → (param_among ps name (k + 1) ≡ Some v → v.place < k + 1 + length ps) → v.place < k + length (x ∷ ps)
  by_test true f rest = let at : k ≡ v.place = ap (λ (w : Variable). w.place) (same_Some (record { place = k; alone = alone_param x }) v f) in omega (arith, at)
  by_test false f rest = omega (arith, rest f)

param-alone : (path : List Step) (k : ℕ) (x : ParamSpace) (name : List ℕ) (test : Test) (given : Value) (left : Left) → same_bytes x.name name ≡ true → left ≡ left_on path k → 1 ≤ length (param_cells path k x.domain) → (is_range x.domain ≡ true → is_unsplit path true k ≡ true) → known (alone_param x) (path_of left) (c.Param name test given) ≡ known_over (map (λ y. passes test y given) (param_cells path k x.domain))
param-alone path k x name test given left own is some whole =
    known-Param (alone_param x) (path_of left) name test given
    ∙ (chosen (same_bytes x.name name) _ _ own
    ∙ ap (λ cells. known_over (map (λ y. passes test y given) cells)) (ap (λ l. param_cells (path_of l) 0 x.domain) is ∙ param-alike path k x.domain some whole))

abbrev IsSound : List Step → ℕ → ParamSpace → Type 0
IsSound path k x = (1 ≤ length (param_cells path k x.domain)) × (is_range x.domain ≡ true → is_unsplit path true k ≡ true)

param-found : (path : List Step) (ps : List ParamSpace) (k : ℕ) (name : List ℕ) (test : Test) (given : Value) (v : Variable) (left : Left) → param_among ps name k ≡ Some v → left ≡ left_on path v.place → ((i : ℕ) (x : ParamSpace) → slice_get ps i ≡ Some x → IsSound path (k + i) x) → known v.alone (path_of left) (c.Param name test given) ≡ param_known path k ps name test given
param-found path [] k name test given v left e is some = absurd (none-some v e)
param-found path (x ∷ ps) k name test given v left e is some =
    by_test (same_bytes x.name name) refl e
    (λ f. param-found path ps (k + 1) name test given v left f is (λ i y there. let at : k + suc i ≡ k + 1 + i = omega arith in subst (λ n. IsSound path n y) at (some (suc i) y there))) where
      by_test : (b : Bool) → same_bytes x.name name ≡ b → cond b (Some (record { place = k; alone = alone_param x })) (param_among ps name (k + 1)) ≡ Some v → (param_among ps name (k + 1) ≡ Some v → known v.alone (path_of left) (c.Param name test given) ≡ param_known path (k + 1) ps name test given) → known v.alone (path_of left) (c.Param name test given) ≡ cond b (known_over (map (λ y. passes test y given) (param_cells path k x.domain))) (param_known path (k + 1) ps name test given)
      by_test true own f rest =
          let at : k + 0 ≡ k = omega arith in
          let here = subst (λ n. IsSound path n x) at (some 0 x refl) in
          subst (λ (w : Variable). left ≡ left_on path w.place → known w.alone (path_of left) (c.Param name test given) ≡ known_over (map (λ y. passes test y given) (param_cells path k x.domain)))
          (same_Some (record { place = k; alone = alone_param x }) v f) (λ there. param-alone path k x name test given left own there here.0 here.1) is
      by_test false own f rest = rest f

module _ (space : Space) (path : List Step) (variables : Variables) (board : Board) (named : HasVariables space variables) (shown : IsBoard space path board) (open_ : IsOpen space path) (cond_ : Cond) (name : List ℕ) where
  pub param-unknown : (test : Test) (given : Value) → get_by_text variables.params name ≡ None → cond_ ≡ c.Param name test given → No ≡ known space path cond_
  param-unknown test given none is =
      sym (ap (known space path) is ∙ (known-Param space path name test given ∙ param-none path space.params 0 name test given (sym (named.params name) ∙ none)))

  pub param-read : (test : Test) (given : Value) (v : Variable) (left : Left) (k : Known) → get_by_text variables.params name ≡ Some v → ((l : Left) → slice_get board.params v.place ≡ Some l → left ≡ l) → k ≡ known v.alone (path_of left) cond_ → cond_ ≡ c.Param name test given → k ≡ known space path cond_
  param-read test given v left k found reads answer is =
      let among = sym (named.params name) ∙ found in
      let here = reads (left_on path v.place) (shown.params v.place (omega (arith, param-place space.params 0 name v among))) in
      answer ∙ (ap (known v.alone (path_of left)) is
      ∙ (param-found path space.params 0 name test given v left among here (λ i x there. let at : i ≡ 0 + i = omega arith in subst (λ n. IsSound path n x) at (open_.params i x there, open_.ranges i x there))
      ∙ (sym (known-Param space path name test given) ∙ ap (known space path) (sym is))))
