use Rattle.idl_back.proofs.FrontSigns.{sign_sits, alone_sits, part_ends, closing_sits, reserved_opens, special_opens}
use Rattle.idl_back.proofs.FrontRows.{spaced_sits}
use Rattle.idl_back.proofs.laws.signs_stand.Goals as goal

pub returns-clause-sign : goal.returns-clause-sign
returns-clause-sign c = sign_sits

pub returns-clause-alone : goal.returns-clause-alone
returns-clause-alone c = alone_sits

pub returns-clause-part : goal.returns-clause-part
returns-clause-part c = part_ends

pub returns-clause-close : goal.returns-clause-close
returns-clause-close c = closing_sits

pub returns-clause-opened : goal.returns-clause-opened
returns-clause-opened c = reserved_opens

pub returns-clause-opened_special : goal.returns-clause-opened_special
returns-clause-opened_special c = special_opens

pub returns-clause-spaced : goal.returns-clause-spaced
returns-clause-spaced c = spaced_sits
