-- Every expression is sound.
use Rattle.idl_tree.specs.declared.expressions.Unary.{Unary}
use Rattle.idl_tree.specs.declared.expressions.Unary.TheVariants as u
use Rattle.idl_tree.specs.declared.expressions.Binary.{Binary}
use Rattle.idl_tree.specs.declared.expressions.Binary.TheVariants as b
use Rattle.idl_tree.specs.declared.expressions.Expr.{Expr}
use Rattle.idl_tree.specs.declared.expressions.Expr.TheVariants as ex
use Rattle.idl_tree.specs.ExprLaws.{induct-Expr}
use Rattle.idl_spec.specs.Settings.{Setting}
use Rattle.type_laws.specs.Kinds.{Mode, Round}
use Rattle.type_laws.specs.Worlds.{World, Tested}
use Rattle.type_laws.specs.Callees.{Callable}
use Rattle.type_laws.specs.Software.{Software}
use Rattle.type_laws.proofs.Sound.{Sound}
use Rattle.type_laws.proofs.Leaves as leaf
use Rattle.type_laws.proofs.NameForms as name
use Rattle.type_laws.proofs.OneForms as one
use Rattle.type_laws.proofs.Operators as two
use Rattle.type_laws.proofs.Equalities as equal
use Rattle.type_laws.proofs.TwoForms.{sound-Index}
use Rattle.type_laws.proofs.Tests.{sound-And, sound-Or}
use Rattle.type_laws.proofs.TestForms.{tells}
use Rattle.type_laws.proofs.Choices.{sound-Choice}
use Rattle.type_laws.proofs.Lists.{sound-Join}
use Rattle.type_laws.proofs.Calls.{sound-Call}
use Rattle.type_laws.proofs.Addresses.{sound-SoftRead}

module _ (e : Setting) (mode : Mode) (round : Round) (world : World e) (tested : Tested e) (good : Callable e mode round) (software : Software e mode) where
  sound-Unary : (sign : Unary) (a : Expr) → Sound e mode round a → Sound e mode round (ex.Unary sign a)
  sound-Unary u.Not a h = equal.sound-Not e mode round a h
  sound-Unary u.Invert a h = one.sound-Invert e mode round world.wide a h
  sound-Unary u.Minus a h = one.sound-Minus e mode round world.wide a h

  sound-Binary : (sign : Binary) (a c : Expr) → Sound e mode round a → Sound e mode round c → Sound e mode round (ex.Binary sign a c)
  sound-Binary b.And a c = sound-And e tested mode round a c (tells e tested a)
  sound-Binary b.Or a c = sound-Or e tested mode round a c (tells e tested a)
  sound-Binary b.Equal a c = equal.sound-Equal e mode round a c
  sound-Binary b.NotEqual a c = equal.sound-NotEqual e mode round a c
  sound-Binary b.BitOr a c = two.sound-BitOr e mode round a c
  sound-Binary b.BitXor a c = two.sound-BitXor e mode round a c
  sound-Binary b.BitAnd a c = two.sound-BitAnd e mode round a c
  sound-Binary b.Below a c = two.sound-Below e mode round a c
  sound-Binary b.AtMost a c = two.sound-AtMost e mode round a c
  sound-Binary b.Above a c = two.sound-Above e mode round a c
  sound-Binary b.AtLeast a c = two.sound-AtLeast e mode round a c
  sound-Binary b.Left a c = two.sound-Left e mode round a c
  sound-Binary b.Right a c = two.sound-Right e mode round a c
  sound-Binary b.RightSigned a c = two.sound-RightSigned e mode round a c
  sound-Binary b.Add a c = two.sound-Add e mode round a c
  sound-Binary b.Sub a c = two.sound-Sub e mode round a c
  sound-Binary b.WideAdd a c = two.sound-WideAdd e mode round a c
  sound-Binary b.WideSub a c = two.sound-WideSub e mode round a c
  sound-Binary b.Mul a c = two.sound-Mul e mode round a c
  sound-Binary b.WideMul a c = two.sound-WideMul e mode round a c
  sound-Binary b.Div a c = two.sound-Div e mode round a c
  sound-Binary b.Rem a c = two.sound-Rem e mode round a c

  pub expressions_sound : (x : Expr) → Sound e mode round x
  expressions_sound = induct-Expr (Sound e mode round) (record {
    number = leaf.sound-Number e mode round;
    sized = leaf.sound-Sized e mode round;
    text = leaf.sound-Text e mode round;
    flag = leaf.sound-Flag e mode round;
    word = name.sound-Word e mode round world;
    member = leaf.sound-Member e mode round;
    unary = sound-Unary;
    binary = sound-Binary;
    wide_left = one.sound-WideLeft e mode round world.wide;
    choice = λ test taken other h k l. sound-Choice e tested mode round test taken other (tells e tested test) h k l;
    join = sound-Join e mode round;
    repeat = one.sound-Repeat e mode round world.wide;
    index = sound-Index e mode round;
    slice = one.sound-Slice e mode round world.wide;
    call = sound-Call e mode round good;
    signed = one.sound-Signed e mode round world.wide;
    resize = one.sound-Resize e mode round world.wide;
    pc = leaf.sound-Pc e mode round world;
    encoding = leaf.sound-Encoding e mode round;
    register = one.sound-Register e mode round world.wide;
    field = name.sound-Field e mode round world;
    soft_read = sound-SoftRead e mode round world software;
    read_memory = one.sound-ReadMemory e mode round world.wide;
    new_field = name.sound-NewField e mode round world;
    mode = leaf.sound-Mode e mode round;
    implemented = name.sound-Implemented e mode round world;
    implemented_version = name.sound-ImplementedVersion e mode round world;
  })
