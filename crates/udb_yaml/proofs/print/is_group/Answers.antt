use Rattle.udb_yaml.proofs.PrintLemmas.{null_flat, flag_flat, int_flat, text_flat, list_group, map_group}
use Rattle.udb_yaml.proofs.print.is_group.Goals as goal

pub returns-in-List : goal.returns-in-List
returns-in-List c = list_group c.args.tree.now c.in-List.items c.is_empty.result c.in-List.is c.is_empty.ensures

pub returns-in-Map : goal.returns-in-Map
returns-in-Map c = map_group c.args.tree.now c.in-Map.entries c.is_empty-in-Map.result c.in-Map.is c.is_empty-in-Map.ensures

pub returns-in-Null : goal.returns-in-Null
returns-in-Null c = null_flat c.args.tree.now c.in-Null.is

pub returns-in-Flag : goal.returns-in-Flag
returns-in-Flag c = flag_flat c.args.tree.now c.in-Flag.field-0 c.in-Flag.is

pub returns-in-Int : goal.returns-in-Int
returns-in-Int c = int_flat c.args.tree.now c.in-Int.field-0 c.in-Int.is

pub returns-in-Text : goal.returns-in-Text
returns-in-Text c = text_flat c.args.tree.now c.in-Text.field-0 c.in-Text.is
