use Rattle.ots_chain.proofs.message_hash.MessageHash.of.Goals as goal

pub returns-clause-digest : goal.returns-clause-digest
returns-clause-digest c = c.finish.ensures.digest _ _ _ _ _ (c.update.ensures _ _ _ _ _ c.new-hash.ensures)

pub returns-clause-length : goal.returns-clause-length
returns-clause-length c = c.finish.ensures.length _ _ _ _ _ (c.update.ensures _ _ _ _ _ c.new-hash.ensures)
