use Rattle.vring_split.proofs.Fields.{desc_back, used_elem_back, length-desc_bytes, length-used_elem_bytes}
use Rattle.vring_split.proofs.laws.field_laws.Goals as goal

pub returns-clause-desc : goal.returns-clause-desc
returns-clause-desc c = λ d fits. (length-desc_bytes d, desc_back d fits.addr fits.len fits.flags fits.next)

pub returns-clause-elem : goal.returns-clause-elem
returns-clause-elem c = λ e id len. (length-used_elem_bytes e, used_elem_back e id len)
