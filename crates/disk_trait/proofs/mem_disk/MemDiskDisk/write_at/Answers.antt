use Rattle.disk_trait.proofs.mem_disk.MemDiskDisk.write_at.Goals as goal

pub returns-then-is_refusing_write-clause-images : goal.returns-then-is_refusing_write-clause-images
returns-then-is_refusing_write-clause-images c = rw c.change.ensures c.name.ensures.images
