mod FirstPart
