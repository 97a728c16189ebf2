use Rattle.zf_dev.proofs.until_end.UntilEndSource.read.Goals as goal

pub invariant_of-self : goal.invariant_of-self
invariant_of-self g c =
    let self = c.args.self.now in
    let seen = c.read_on.ensures.once g.K.Begun.ends_seen (self.once, self.none) in
    record { at_end = c.read_on.ensures.at_end; known = c.read_on.ensures.known; once = seen.0; none = seen.1 }
