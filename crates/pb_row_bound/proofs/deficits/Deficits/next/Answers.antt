use Rattle.pb_row_bound.proofs.deficits.Deficits.next.Goals as goal

pub returns-clause-some : goal.returns-clause-some
returns-clause-some g c = λ row is. (let h = c.next.ensures.some row is in (h.0, h.1, h.3))
