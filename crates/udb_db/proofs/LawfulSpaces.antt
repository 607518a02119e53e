-- The space of tables that keep the rules up to that on names is lawful.
use Rattle.std.proofs.Common.{◌≡◌, ◌<◌, true, List, length, get_or, refl, sym, ap, subst, ◌∙◌, arith}
use Rattle.std.specs.List.{Contains, All, AllPairs, flat_map}
use Rattle.std.proofs.lemmas.List.{get_or_default}
use Rattle.yaml_spec.specs.declared.tree.Tree.{Tree}
use Rattle.udb_schema.specs.Meets.{meets}
use Rattle.udb_base.specs.declared.kinds.Kind.{Kind}
use Rattle.udb_base.specs.declared.kinds.Kind.TheVariants as kind
use Rattle.udb_base.specs.declared.rows.Row.{Row}
use Rattle.udb_base.specs.declared.spaces.Space.{Space}
use Rattle.udb_spec.specs.Lawful.{ListsWidths, Lawful}
use Rattle.udb_tables.specs.Order.{IsInOrder}
use Rattle.entry_tree.specs.declared.ParamEntry.{ParamEntry}
use Rattle.manual_spec.specs.Entries.{param_space}
use Rattle.udb_entry.specs.declared.answers.Entry.{Entry}
use Rattle.udb_entry.specs.declared.answers.Entry.TheVariants.{Extension, Param, Instruction, Csr, Functions, Config}
use Rattle.entry_form.specs.Forms.{schema_of}
use Rattle.udb_entry.specs.Entries.{entry_of}
use Rattle.udb_entry.specs.First.{Gives}
use Rattle.db_spec.specs.Entries.{space_of, width_name}
use Rattle.db_spec.specs.Breaks.{Give}
use Rattle.db_spec.specs.First.{HasReadKinds, KeepsUpTo}
use Rattle.db_spec.proofs.EntryLaws.{give_long, gives_at}
use Rattle.udb_db.specs.Phases.{KnowsNames, param_spaces_in}
use Rattle.udb_db.proofs.Examined.{known_names}
use Rattle.udb_db.proofs.Steps.{params_are}
use Rattle.udb_db.proofs.VersionLaws.{HasRisingVersions, versions_rise}
use Rattle.udb_db.proofs.DomainLaws.{HasSome, HasLawfulDomain, domains_are_lawful}
use Rattle.udb_db.proofs.ValueLaws.{domain_has_some}
use Rattle.udb_db.proofs.WidthLaws.{ParamBefore, param_among, param_widths}
use Rattle.udb_db.proofs.SpaceLaws.{IsSoundEntry, entries_rise, params_rise, lawful_by}

-- a parameter's domain lists something, where it lists
abbrev HasValues : Entry → Type 0
HasValues (Extension x) = Unit {0}
HasValues (Param x) = HasSome x.domain
HasValues (Instruction x) = Unit {0}
HasValues (Csr x) = Unit {0}
HasValues (Functions x) = Unit {0}
HasValues (Config x) = Unit {0}

values_of : (k : Kind) (t : Tree) → meets (schema_of k) t ≡ true → HasValues (entry_of k t)
values_of kind.Extension t h = tt
values_of kind.Parameter t h = domain_has_some t h
values_of kind.Instruction t h = tt
values_of kind.Csr t h = tt
values_of kind.Functions t h = tt
values_of kind.Config t h = tt

has_values : (row : Row) (e : Entry) → Gives row e → HasValues e
has_values row e g = subst HasValues (sym g.is) (values_of row.kind g.tree g.meets_schema)

sound_by : (e : Entry) → HasRisingVersions e → HasLawfulDomain e → HasValues e → ((x : ParamEntry) → e ≡ Param x → x.name ≡ width_name → ListsWidths x.domain) → IsSoundEntry e
sound_by (Extension x) r d v w = r
sound_by (Param x) r d v w = (d v, w x refl)
sound_by (Instruction x) r d v w = tt
sound_by (Csr x) r d v w = tt
sound_by (Functions x) r d v w = tt
sound_by (Config x) r d v w = tt

pub lawful_space : (rows : List Row) (es : List Entry) (space : Space) → IsInOrder rows → HasReadKinds rows → Give rows es → space ≡ space_of es → All (KnowsNames space) es → Lawful space
lawful_space rows es space o kinds g is known =
    let params : space.params ≡ flat_map param_spaces_in es = ap (λ (s : Space). s.params) is ∙ params_are es in
    let rise : AllPairs ParamBefore (flat_map param_spaces_in es) = params_rise es (entries_rise rows es o kinds g) in
    let sound : All IsSoundEntry es = λ k d lt. (
    let in_rows : k < length rows = omega (arith, lt, give_long rows es g) in
    let at = gives_at rows es k g in_rows in
    let one : at.entry ≡ get_or es k d = at.entry_is ∙ get_or_default es k at.entry d lt in
    let widths : (x : ParamEntry) → at.entry ≡ Param x → x.name ≡ width_name → ListsWidths x.domain = λ x e name.
    (let here : get_or es k (Param x) ≡ Param x = get_or_default es k (Param x) d lt ∙ (sym one ∙ e) in
    let knows : KnowsNames space (Param x) = subst (KnowsNames space) here (known k (Param x) lt) in
    param_widths space x knows (subst (AllPairs ParamBefore) (sym params) rise) (subst (λ ps. Contains ps (param_space x)) (sym params) (param_among es k x lt here)) name) in
    subst IsSoundEntry one (sound_by at.entry (versions_rise at.row at.entry at.gives) (domains_are_lawful at.row at.entry at.gives) (has_values at.row at.entry at.gives) widths)
    ) in
    lawful_by rows es space o kinds g is known sound

pub lawful_kept : (rows : List Row) (es : List Entry) (space : Space) → IsInOrder rows → HasReadKinds rows → Give rows es → space ≡ space_of es → KeepsUpTo 12 rows → Lawful space
lawful_kept rows es space o kinds g is kept = lawful_space rows es space o kinds g is (known_names rows es space kinds g kept is)
