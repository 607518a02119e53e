use Rattle.std.proofs.Common.{◌≡◌, ◌++◌, ◌∙◌, ap, List, ℕ, OnOk, subst}
use Rattle.udb_yaml.specs.Printing.{items_text, entries_text}
use Rattle.udb_yaml.proofs.PrintLemmas.{list_text, map_text, null_none, flag_none, int_none, text_none}
use Rattle.udb_yaml.proofs.print.+print.Goals as goal

pub push_group-returns-in-List : goal.push_group-returns-in-List
push_group-returns-in-List t c = subst (λ (z : List ℕ). OnOk c.push_items.result (c.push_items.new.out ≡ c.args.out.now ++ z)) (ap (items_text c.args.column) c.as_slice.ensures ∙ list_text c.args.column c.in-List.items c.args.tree.now c.in-List.is) c.push_items.ensures

pub push_group-returns-in-Map : goal.push_group-returns-in-Map
push_group-returns-in-Map t c = subst (λ (z : List ℕ). OnOk c.push_entries.result (c.push_entries.new.out ≡ c.args.out.now ++ z)) (ap (entries_text c.args.column) c.as_slice-in-Map.ensures ∙ map_text c.args.column c.in-Map.entries c.args.tree.now c.in-Map.is) c.push_entries.ensures

pub push_group-returns-in-Null : goal.push_group-returns-in-Null
push_group-returns-in-Null t c = null_none c.args.out.now c.args.column c.args.tree.now c.in-Null.is

pub push_group-returns-in-Flag : goal.push_group-returns-in-Flag
push_group-returns-in-Flag t c = flag_none c.args.out.now c.args.column c.args.tree.now c.in-Flag.field-0 c.in-Flag.is

pub push_group-returns-in-Int : goal.push_group-returns-in-Int
push_group-returns-in-Int t c = int_none c.args.out.now c.args.column c.args.tree.now c.in-Int.field-0 c.in-Int.is

pub push_group-returns-in-Text : goal.push_group-returns-in-Text
push_group-returns-in-Text t c = text_none c.args.out.now c.args.column c.args.tree.now c.in-Text.field-0 c.in-Text.is
