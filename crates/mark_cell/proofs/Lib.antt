mod JoinedCopies
mod BehindChange
mod CopyOnes
