use Rattle.idl_forms.proofs.Masks.{width-start}
use Rattle.idl_forms.proofs.operators.least_width.Goals as goal

pub loop-width-init : goal.loop-width-init
loop-width-init c = (width-start c.args.number, c.ranges.number.fits)
